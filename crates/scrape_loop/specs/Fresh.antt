-- What the rules for samples are run for, in words of raw texts alone: once for each text of a reply's rows that the life doesn't know, and it
-- knows just those of its last good scrape ("Configuration" of the Prometheus documentation, scrape_config: metric_relabel_configs).
use Rattle.std.specs.Prelude.{◌≡◌, ℕ, ℤ, Bool, true, false, List, [], ◌∷◌, ◌++◌, map, length, Result, Ok, Err, if◌then◌else◌}
use Rattle.std.specs.List.{list_any}
use Rattle.std.specs.Str.{bytes_eq}
use Rattle.rule_conf.specs.declared.conf.RuleConf.{RuleConf}
use Rattle.expo_reader.specs.declared.rows.BodyRow.{BodyRow}
use Rattle.outside.specs.declared.replies.Reply.{Reply}
use Rattle.sample_rows.specs.Outcomes.{rows_or_fault}
use Rattle.sample_rows.specs.declared.fault.ScrapeFault.{ScrapeFault}
use Rattle.sample_rows.specs.declared.scrape.RowRules.{RowRules}
use Rattle.series_cache.specs.Caches.{CacheView}
use Rattle.scrape_loop.specs.Texts.{Text}
use Rattle.scrape_loop.specs.Tracked.{LifeView, after_reply, is_good, outcome_for, runs_for}

-- the texts that a cache remembers
abbrev pub texts_in : CacheView → List (List ℕ)
texts_in c = map (λ (t : Text). t.0) c.texts

-- a text is among these
abbrev pub has_text : List ℕ → List (List ℕ) → Bool
has_text raw seen = list_any (bytes_eq raw) seen

-- the texts of rows that aren't among these, each once
abbrev pub new_texts : List (List ℕ) → List BodyRow → List (List ℕ)
new_texts seen [] = []
new_texts seen (r ∷ rs) = if has_text r.raw seen then new_texts seen rs else r.raw ∷ new_texts (seen ++ r.raw ∷ []) rs

-- those of a reply; none where no row of it is looked at
abbrev pub new_in : List (List ℕ) → Result (List BodyRow) ScrapeFault → List (List ℕ)
new_in seen (Ok rows) = new_texts seen rows
new_in seen (Err f) = []

-- the texts of all rows of a reply
abbrev pub row_texts : Result (List BodyRow) ScrapeFault → List (List ℕ)
row_texts (Ok rows) = map (λ (r : BodyRow). r.raw) rows
row_texts (Err f) = []

-- the rules are run once for each text that the life doesn't know
abbrev pub FreshLaw : LifeView → RowRules → List RuleConf → Reply → ℤ → Type 0
FreshLaw l rules metric reply took = runs_for l rules metric reply took ≡ length (new_in (texts_in l.cache) (rows_or_fault rules reply took))

-- after a good scrape the life knows just the texts of its rows, and after any other those that it knew before
pub record KnownLaw (l : LifeView) (rules : RowRules) (metric : List RuleConf) (reply : Reply) (took : ℤ) : Type 0 where
  pub good : is_good (outcome_for l rules metric reply took) ≡ true → (raw : List ℕ) →
      has_text raw (texts_in (after_reply l rules metric reply took).cache) ≡ has_text raw (row_texts (rows_or_fault rules reply took))
  pub bad : is_good (outcome_for l rules metric reply took) ≡ false → texts_in (after_reply l rules metric reply took).cache ≡ texts_in l.cache
