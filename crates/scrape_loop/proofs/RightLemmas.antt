-- What is known of raw texts stays right.
use Rattle.std.proofs.Common.{◌≡◌, ℕ, ℤ, ◌<◌, Bool, true, false, cond, List, [], ◌∷◌, length, take, get_or, Option, Some, None, refl, sym, ap, ap₂, subst}
use Rattle.std.specs.Prelude.{All, Result, Ok, Err}
use Rattle.std.proofs.lemmas.List.Elements.{All-nil, All-head, All-tail, All-push, All-map, All-filter, All-take, All-weaker, All-get_or, All-from_get_or}
use Rattle.label_set.specs.declared.forms.Form.{Form}
use Rattle.label_set.specs.declared.texts.Pair.{Pair}
use Rattle.label_conflict.specs.Merging.{merged}
use Rattle.outside.specs.declared.replies.Reply.{Reply}
use Rattle.relabel.specs.Relabelling.{relabelled}
use Rattle.rule_conf.specs.declared.conf.RuleConf.{RuleConf}
use Rattle.expo_reader.specs.Bodies.{reading}
use Rattle.expo_reader.specs.Laws.{AgreesWith}
use Rattle.expo_reader.specs.declared.rows.BodyRow.{BodyRow}
use Rattle.expo_reader.proofs.RawLemmas.{raw_texts_tell}
use Rattle.sample_rows.specs.Outcomes.{body_of, form_of, or_line, rows_or_fault, unless_fault}
use Rattle.sample_rows.specs.Rows.{joined_set, is_tracked, row_series, series_of}
use Rattle.sample_rows.specs.declared.fault.ScrapeFault.{ScrapeFault}
use Rattle.sample_rows.specs.declared.scrape.RowRules.{RowRules}
use Rattle.series_cache.specs.Caches.{CacheView, failed, renewed, shown_of, stamped, turned}
use Rattle.series_cache.specs.Remembered.{fresh, marked}
use Rattle.std.specs.Str.{bytes_eq}
use Rattle.scrape_loop.specs.Texts.{Text, knows, with_put, with_stamp, noted, shown_row, shown_all, texts_by, IsRightFor, IsRight, AreRight}
use Rattle.scrape_loop.specs.Tracked.{LifeView, is_good, outcome_for, texts_for, after_reply, after_forced}

-- the rows that are read are those of the body
pub read_rows : (o : Option ScrapeFault) (said : Result (List BodyRow) ℕ) (rows : List BodyRow) → unless_fault o (or_line said) ≡ Ok rows → said ≡ Ok rows
read_rows (Some f) said rows e = absurd cc
read_rows None (Ok xs) rows e = let same : xs ≡ rows = cc in ap Ok same
read_rows None (Err line) rows e = absurd cc

module _ (honor : Bool) (metric : List RuleConf) (target : List Pair) where
  -- the text of a row with its series
  abbrev pub text_of : BodyRow → Text
  text_of r = (r.raw, fresh (row_series honor metric target r))

  -- it is right for a row
  abbrev pub Tells : BodyRow → Type 0
  Tells r = IsRight honor metric target (text_of r)

  same_series : (r s : BodyRow) → AgreesWith r s → IsRightFor honor metric target (text_of r) s
  unfolding row_series joined_set
  same_series r s agrees = λ raw. (let h = agrees raw in ap₂ (λ name labels. series_of (relabelled metric (merged name labels target honor))) h.0 h.1)

  -- it is so for each row of a body that is read
  rows_by : (form : Form) (bytes : List ℕ) (d : BodyRow) (rows : List BodyRow) → reading form bytes ≡ Ok rows → All Tells rows
  rows_by form bytes d rows e =
      All-from_get_or Tells rows d
      (λ i within g b more f.
      All-weaker (AgreesWith (get_or rows i d)) (IsRightFor honor metric target (text_of (get_or rows i d))) (same_series (get_or rows i d)) more
      (All-get_or (λ (r : BodyRow). All (AgreesWith r) more) rows i d within (raw_texts_tell form g bytes b rows more e f)))

  pub rows_tell : (form : Form) (bytes : List ℕ) (rows : List BodyRow) → reading form bytes ≡ Ok rows → All Tells rows
  rows_tell form bytes [] e = All-nil Tells
  rows_tell form bytes (r ∷ rows) e = rows_by form bytes r (r ∷ rows) e

  -- a text that is shown
  stamped_right : (raw : List ℕ) (tracked : Bool) (t : Text) → IsRight honor metric target t → IsRight honor metric target (stamped raw tracked t)
  stamped_right raw tracked t h = by (bytes_eq raw t.0)
    where
      by : (b : Bool) → IsRight honor metric target (cond b (t.0, marked tracked t.1) t)
      by true = h
      by false = h

  pub stamp_right : (raw : List ℕ) (tracked : Bool) (c : CacheView) → AreRight honor metric target c.texts → AreRight honor metric target (with_stamp raw tracked c).texts
  stamp_right raw tracked c h =
      All-map (IsRight honor metric target) (stamped raw tracked) c.texts
      (All-weaker (IsRight honor metric target) (λ (t : Text). IsRight honor metric target (stamped raw tracked t)) (stamped_right raw tracked) c.texts h)

  -- the texts after a scrape, good or not
  pub turned_right : (good : Bool) (c : CacheView) → AreRight honor metric target c.texts → AreRight honor metric target (turned good c).texts
  turned_right true c h =
      All-map (IsRight honor metric target) renewed (shown_of c.texts) (All-filter (λ (t : Text). t.1.shown) (λ (t : Text). IsRight honor metric target (renewed t)) c.texts h)
  turned_right false c h =
      All-map (IsRight honor metric target) failed (take c.kept c.texts) (All-take (λ (t : Text). IsRight honor metric target (failed t)) c.kept c.texts h)

  pub forced_right : (l : LifeView) → AreRight honor metric target l.cache.texts → AreRight honor metric target (after_forced l).cache.texts
  forced_right l h = turned_right false l.cache h

module _ (rules : RowRules) (metric : List RuleConf) (target : List Pair) where
  -- one row more, whose text tells what is right
  pub noted_right : (c : CacheView) (r : BodyRow) → Tells rules.honor_labels metric target r → AreRight rules.honor_labels metric target c.texts →
      AreRight rules.honor_labels metric target (noted rules metric target c r).texts
  noted_right c r tells h = by (knows r.raw c)
    where
      by : (b : Bool) → AreRight rules.honor_labels metric target (cond b c (with_put r.raw (row_series rules.honor_labels metric target r) c)).texts
      by true = h
      by false = All-push (IsRight rules.honor_labels metric target) c.texts (text_of rules.honor_labels metric target r) h tells

  pub row_right : (c : CacheView) (r : BodyRow) → Tells rules.honor_labels metric target r → AreRight rules.honor_labels metric target c.texts →
      AreRight rules.honor_labels metric target (shown_row rules metric target c r).texts
  row_right c r tells h =
      stamp_right rules.honor_labels metric target r.raw (is_tracked rules r) (noted rules metric target c r) (noted_right c r tells h)

  -- a row of a body that is read
  pub shown_right : (form : Form) (bytes : List ℕ) (rows : List BodyRow) (i : ℕ) (r : BodyRow) (c : CacheView) → reading form bytes ≡ Ok rows → i < length rows → r ≡ get_or rows i r →
      AreRight rules.honor_labels metric target c.texts → AreRight rules.honor_labels metric target (shown_row rules metric target c r).texts
  shown_right form bytes rows i r c e within is h =
      row_right c r
      (subst (Tells rules.honor_labels metric target) (sym is)
      (All-get_or (Tells rules.honor_labels metric target) rows i r within (rows_tell rules.honor_labels metric target form bytes rows e))) h

  -- all rows
  all_right : (rows : List BodyRow) (c : CacheView) → All (Tells rules.honor_labels metric target) rows → AreRight rules.honor_labels metric target c.texts →
      AreRight rules.honor_labels metric target (shown_all rules metric target c rows).texts
  all_right [] c tells h = h
  all_right (r ∷ rs) c tells h =
      all_right rs (shown_row rules metric target c r) (All-tail (Tells rules.honor_labels metric target) r rs tells)
      (row_right c r (All-head (Tells rules.honor_labels metric target) r rs tells) h)

  pub rows_right : (form : Form) (bytes : List ℕ) (rows : List BodyRow) (c : CacheView) → reading form bytes ≡ Ok rows → AreRight rules.honor_labels metric target c.texts →
      AreRight rules.honor_labels metric target (shown_all rules metric target c rows).texts
  rows_right form bytes rows c e h = all_right rows c (rows_tell rules.honor_labels metric target form bytes rows e) h

-- a reply to a scrape of the life's target
module _ (l : LifeView) (rules : RowRules) (metric : List RuleConf) (reply : Reply) (took : ℤ) where
  texts_right : AreRight rules.honor_labels metric l.target l.cache.texts → AreRight rules.honor_labels metric l.target (texts_for l rules metric reply took).texts
  texts_right h = by (rows_or_fault rules reply took) refl
    where
      by : (o : Result (List BodyRow) ScrapeFault) → rows_or_fault rules reply took ≡ o → AreRight rules.honor_labels metric l.target (texts_by rules metric l.target l.cache o).texts
      by (Ok rows) e = rows_right rules metric l.target (form_of reply) (body_of reply) rows l.cache (read_rows _ (reading (form_of reply) (body_of reply)) rows e) h
      by (Err f) e = h

  pub reply_right : AreRight rules.honor_labels metric l.target l.cache.texts → AreRight rules.honor_labels metric l.target (after_reply l rules metric reply took).cache.texts
  reply_right h =
      turned_right rules.honor_labels metric l.target (is_good (outcome_for l rules metric reply took)) (texts_for l rules metric reply took) (texts_right h)
