-- The texts that a life knows are raw texts of rows that it was given.
use Rattle.std.proofs.Common.{◌≡◌, ◌∙◌, ◌||◌, ℕ, ℤ, zero, suc, Bool, true, false, cond, List, [], ◌∷◌, Option, Some, None, map, sym, ap, refl, slice_get, take, true≢false}
use Rattle.std.specs.Prelude.{Result, Ok, Err}
use Rattle.std.specs.Str.{bytes_eq}
use Rattle.std.proofs.lemmas.Slice.Eq.{bytes_eq-Decides}
use Rattle.rule_conf.specs.declared.conf.RuleConf.{RuleConf}
use Rattle.label_set.specs.declared.forms.Form.{Form}
use Rattle.expo_reader.specs.Bodies.{reading}
use Rattle.expo_reader.specs.Like.{IsRawText, raws}
use Rattle.expo_reader.specs.declared.rows.BodyRow.{BodyRow}
use Rattle.outside.specs.declared.replies.Reply.{Reply}
use Rattle.sample_rows.specs.Outcomes.{body_of, form_of, early_fault, or_line, unless_fault}
use Rattle.sample_rows.specs.declared.fault.ScrapeFault.{ScrapeFault}
use Rattle.sample_rows.specs.declared.scrape.RowRules.{RowRules}
use Rattle.series_cache.specs.Caches.{CacheView, turned}
use Rattle.scrape_loop.specs.Fresh.{KnownLaw, has_text, row_texts, texts_in}
use Rattle.scrape_loop.specs.Raw.{AreRaw}
use Rattle.scrape_loop.specs.Texts.{IsAtRest, Text}
use Rattle.scrape_loop.specs.Tracked.{LifeView, after_reply, is_good, outcome_for}
use Rattle.scrape_loop.proofs.FreshLemmas.{failed_texts}

-- where a text stands among some
place_of : (raw : List ℕ) (ts : List (List ℕ)) → has_text raw ts ≡ true → (place : ℕ) × (slice_get ts place ≡ Some raw)
place_of raw [] has = absurd cc
place_of raw (t ∷ ts) has = by (bytes_eq raw t) refl has (place_of raw ts)
  where
    by : (b : Bool) → bytes_eq raw t ≡ b → (b || has_text raw ts) ≡ true → (has_text raw ts ≡ true → (place : ℕ) × (slice_get ts place ≡ Some raw)) →
        (place : ℕ) × (slice_get (t ∷ ts) place ≡ Some raw)
    by true e h rest = (0, ap (λ (x : List ℕ). Some x) (sym ((bytes_eq-Decides raw t).0 e)))
    by false e h rest = let found = rest h in (suc found.0, found.1)

has_at : (raw : List ℕ) (ts : List (List ℕ)) (place : ℕ) → slice_get ts place ≡ Some raw → has_text raw ts ≡ true
has_at raw [] place at = absurd cc
has_at raw (t ∷ ts) zero at = by (bytes_eq raw t) ((bytes_eq-Decides raw t).1 cc)
  where
    by : (b : Bool) → b ≡ true → (b || has_text raw ts) ≡ true
    by true e = refl
    by false e = absurd cc
has_at raw (t ∷ ts) (suc place) at = by (bytes_eq raw t) (has_at raw ts place at)
  where
    by : (b : Bool) → has_text raw ts ≡ true → (b || has_text raw ts) ≡ true
    by true h = refl
    by false h = h

-- the text at a place is known, and so it is a raw text
pub raw_at : (form : Form) (c : CacheView) (place : ℕ) (raw : List ℕ) → AreRaw form c → slice_get (texts_in c) place ≡ Some raw → IsRawText form raw
raw_at form c place raw all at = all raw (has_at raw (texts_in c) place at)

-- nothing is known
pub none_raw : (form : Form) (c : CacheView) → c.texts ≡ [] → AreRaw form c
none_raw form c none = λ raw has. absurd (true≢false (sym has ∙ ap (λ ts. has_text raw (map (λ (t : Text). t.0) ts)) none))

-- the texts of the rows of a reply
of_reading : (form : Form) (raw bytes : List ℕ) (r : Result (List BodyRow) ℕ) → reading form bytes ≡ r → has_text raw (row_texts (or_line r)) ≡ true → IsRawText form raw
of_reading form raw bytes (Ok rows) e has = let found = place_of raw (raws rows) has in (bytes, rows, found.0, e, found.1)
of_reading form raw bytes (Err line) e has = absurd cc

of_reply : (form : Form) (raw bytes : List ℕ) (f : Option ScrapeFault) → has_text raw (row_texts (unless_fault f (or_line (reading form bytes)))) ≡ true → IsRawText form raw
of_reply form raw bytes None has = of_reading form raw bytes (reading form bytes) refl has
of_reply form raw bytes (Some f) has = absurd cc

-- after a reply that counts
pub reply_raw : (l : LifeView) (rules : RowRules) (metric : List RuleConf) (reply : Reply) (took : ℤ) → KnownLaw l rules metric reply took → (form : Form) → AreRaw form l.cache →
    AreRaw (cond (is_good (outcome_for l rules metric reply took)) (form_of reply) form) (after_reply l rules metric reply took).cache
reply_raw l rules metric reply took law form old = λ raw has. by raw has (is_good (outcome_for l rules metric reply took)) refl
  where
    by : (raw : List ℕ) → has_text raw (texts_in (after_reply l rules metric reply took).cache) ≡ true → (b : Bool) → is_good (outcome_for l rules metric reply took) ≡ b → IsRawText (cond b (form_of reply) form) raw
    by raw has true e = of_reply (form_of reply) raw (body_of reply) (early_fault rules reply took) (sym (law.good e raw) ∙ has)
    by raw has false e = old raw (ap (has_text raw) (sym (law.bad e)) ∙ has)

-- after a forced scrape the same texts are known
pub forced_raw : (form : Form) (c : CacheView) → IsAtRest c → AreRaw form c → AreRaw form (turned false c)
forced_raw form c rest old = λ raw has. old raw (ap (has_text raw) (sym (failed_texts (take c.kept c.texts) ∙ ap texts_in rest)) ∙ has)
