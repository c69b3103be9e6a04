-- What the texts that a cache remembers have to do with the rows of a reply: those that weren't known are new, and after a good scrape just those
-- of the rows are left.
use Rattle.std.proofs.Common.{◌≡◌, ℕ, ℤ, zero, suc, ◌+◌, ◌-◌, ◌≤◌, Bool, true, false, cond, ◌&&◌, List, [], ◌∷◌, ◌++◌, length, map, take, Some, is_some, refl, sym, ap, ap₂, subst, ◌∙◌, arith, append_assoc, append-nil}
use Rattle.std.specs.Prelude.{Result, Ok, Err, ◌||◌}
use Rattle.std.specs.List.{list_any}
use Rattle.std.specs.Str.{bytes_eq}
use Rattle.std.proofs.lemmas.List.{length-map, length-append, map-append}
use Rattle.std.proofs.lemmas.List.Folds.{list_any-append}
use Rattle.std.proofs.lemmas.Slice.Eq.{bytes_eq-Decides}
use Rattle.label_set.specs.declared.texts.Pair.{Pair}
use Rattle.rule_conf.specs.declared.conf.RuleConf.{RuleConf}
use Rattle.expo_reader.specs.declared.rows.BodyRow.{BodyRow}
use Rattle.outside.specs.declared.replies.Reply.{Reply}
use Rattle.sample_rows.specs.Outcomes.{rows_or_fault}
use Rattle.sample_rows.specs.Rows.{row_series, is_tracked}
use Rattle.sample_rows.specs.declared.fault.ScrapeFault.{ScrapeFault}
use Rattle.sample_rows.specs.declared.scrape.RowRules.{RowRules}
use Rattle.series_cache.specs.Caches.{CacheView, failed, find, renewed, shown_of, stamped, turned, undone, unshown}
use Rattle.series_cache.specs.Remembered.{fresh, marked}
use Rattle.scrape_loop.specs.Texts.{Text, knows, with_put, noted, shown_row, shown_all, texts_by, IsAtRest}
use Rattle.scrape_loop.specs.Tracked.{LifeView}
use Rattle.scrape_loop.specs.Fresh.{texts_in, has_text, new_texts, new_in, row_texts, FreshLaw, KnownLaw}
use Rattle.scrape_loop.proofs.TextLemmas.{KeepsFew, noted_known, put_undone, stamp_undone}

-- a text that is shown stays the same text
stamped_text : (raw : List ℕ) (tracked : Bool) (t : Text) → (stamped raw tracked t).0 ≡ t.0
stamped_text raw tracked t = by (bytes_eq raw t.0)
  where
    by : (b : Bool) → (cond b (t.0, marked tracked t.1) t).0 ≡ t.0
    by true = refl
    by false = refl

stamp_texts : (raw : List ℕ) (tracked : Bool) (ts : List Text) → map (λ (t : Text). t.0) (map (stamped raw tracked) ts) ≡ map (λ (t : Text). t.0) ts
stamp_texts raw tracked [] = refl
stamp_texts raw tracked (t ∷ ts) = ap₂ ◌∷◌ (stamped_text raw tracked t) (stamp_texts raw tracked ts)

-- a text is known where it is among those that are remembered
knows_text : (raw : List ℕ) (ts : List Text) → is_some (find raw ts) ≡ list_any (bytes_eq raw) (map (λ (t : Text). t.0) ts)
knows_text raw [] = refl
knows_text raw (t ∷ ts) = by (bytes_eq raw t.0) (knows_text raw ts)
  where
    by : (b : Bool) → is_some (find raw ts) ≡ list_any (bytes_eq raw) (map (λ (u : Text). u.0) ts) →
        is_some (cond b (Some t.1) (find raw ts)) ≡ (b || list_any (bytes_eq raw) (map (λ (u : Text). u.0) ts))
    by true rest = refl
    by false rest = rest

module _ (rules : RowRules) (metric : List RuleConf) (target : List Pair) where
  -- one row
  row_more : (c : CacheView) (r : BodyRow) (rs : List BodyRow) →
      texts_in (shown_row rules metric target c r) ++ new_texts (texts_in (shown_row rules metric target c r)) rs ≡ texts_in c ++ new_texts (texts_in c) (r ∷ rs)
  row_more c r rs =
      ap (λ xs. xs ++ new_texts xs rs) (stamp_texts r.raw (is_tracked rules r) (noted rules metric target c r).texts)
      ∙ by (knows r.raw c) (has_text r.raw (texts_in c)) (knows_text r.raw c.texts)
    where
      by : (b q : Bool) → b ≡ q →
          (let d = cond b c (with_put r.raw (row_series rules.honor_labels metric target r) c) in texts_in d ++ new_texts (texts_in d) rs)
          ≡ texts_in c ++ cond q (new_texts (texts_in c) rs) (r.raw ∷ new_texts (texts_in c ++ r.raw ∷ []) rs)
      by true true e = refl
      by false false e =
          ap (λ xs. xs ++ new_texts xs rs) (map-append (λ (t : Text). t.0) c.texts ((r.raw, fresh (row_series rules.honor_labels metric target r)) ∷ []))
          ∙ append_assoc (texts_in c) (r.raw ∷ []) (new_texts (texts_in c ++ r.raw ∷ []) rs)
      by true false e = absurd cc
      by false true e = absurd cc

  -- all rows
  pub all_texts : (rows : List BodyRow) (c : CacheView) → texts_in (shown_all rules metric target c rows) ≡ texts_in c ++ new_texts (texts_in c) rows
  all_texts [] c = sym (append-nil (texts_in c))
  all_texts (r ∷ rs) c = all_texts rs (shown_row rules metric target c r) ∙ row_more c r rs

  reply_texts : (c : CacheView) (o : Result (List BodyRow) ScrapeFault) → texts_in (texts_by rules metric target c o) ≡ texts_in c ++ new_in (texts_in c) o
  reply_texts c (Ok rows) = all_texts rows c
  reply_texts c (Err f) = sym (append-nil (texts_in c))

more : (a b n : ℕ) → a ≡ b + n → a - b ≡ n
more a b n e = omega (arith, e)

pub fresh_law : (l : LifeView) (rules : RowRules) (metric : List RuleConf) (reply : Reply) (took : ℤ) → FreshLaw l rules metric reply took
fresh_law l rules metric reply took =
    let o = rows_or_fault rules reply took in
    let d = texts_by rules metric l.target l.cache o in
    more (length d.texts) (length l.cache.texts) (length (new_in (texts_in l.cache) o))
    (sym (length-map d.texts (λ (t : Text). t.0))
    ∙ (ap (λ xs. length xs) (reply_texts rules metric l.target l.cache o)
    ∙ (length-append (texts_in l.cache) (new_in (texts_in l.cache) o) ∙ ap (λ n. n + length (new_in (texts_in l.cache) o)) (length-map l.cache.texts (λ (t : Text). t.0)))))

-- a text was shown
abbrev shows : List ℕ → List Text → Bool
shows raw ts = list_any (λ (t : Text). t.1.shown && bytes_eq raw t.0) ts

or_behind : (a b c : Bool) → ((a || b) || c) ≡ (a || (b || c))
or_behind true b c = refl
or_behind false b c = refl

or_none : (a : Bool) → (a || false) ≡ a
or_none true = refl
or_none false = refl

and_all : (a : Bool) → (a && true) ≡ a
and_all true = refl
and_all false = refl

-- one text that is shown now, whether it was before or not
shown_here : (e s rest f : Bool) → (e || (rest || (e && f))) ≡ (((s && e) || rest) || (e && true))
shown_here true true rest f = refl
shown_here true false true f = refl
shown_here true false false f = refl
shown_here false true rest f = refl
shown_here false false rest f = refl

turned_has : (raw : List ℕ) (ts : List Text) → has_text raw (map (λ (t : Text). t.0) (map renewed (shown_of ts))) ≡ shows raw ts
turned_has raw [] = refl
turned_has raw (t ∷ ts) = by t.1.shown (turned_has raw ts)
  where
    by : (b : Bool) → has_text raw (map (λ (u : Text). u.0) (map renewed (shown_of ts))) ≡ shows raw ts →
        has_text raw (map (λ (u : Text). u.0) (map renewed (cond b (t ∷ shown_of ts) (shown_of ts)))) ≡ ((b && bytes_eq raw t.0) || shows raw ts)
    by true rest = ap (λ z. bytes_eq raw t.0 || z) rest
    by false rest = rest

stamped_shows : (raw text : List ℕ) (tracked : Bool) (ts : List Text) →
    shows raw (map (stamped text tracked) ts) ≡ (shows raw ts || (bytes_eq raw text && is_some (find text ts)))
stamped_shows raw text tracked [] = by (bytes_eq raw text)
  where
    by : (e : Bool) → false ≡ (e && false)
    by true = refl
    by false = refl
stamped_shows raw text tracked (t ∷ ts) = by (bytes_eq text t.0) refl (stamped_shows raw text tracked ts)
  where
    by : (b : Bool) → bytes_eq text t.0 ≡ b → shows raw (map (stamped text tracked) ts) ≡ (shows raw ts || (bytes_eq raw text && is_some (find text ts))) →
        (let u = cond b (t.0, marked tracked t.1) t in (u.1.shown && bytes_eq raw u.0) || shows raw (map (stamped text tracked) ts))
        ≡ (((t.1.shown && bytes_eq raw t.0) || shows raw ts) || (bytes_eq raw text && is_some (cond b (Some t.1) (find text ts))))
    by true found rest =
        ap (λ z. bytes_eq raw t.0 || z) rest
        ∙ ap (λ (x : List ℕ). bytes_eq raw t.0 || (shows raw ts || (bytes_eq raw x && is_some (find text ts)))) ((bytes_eq-Decides text t.0).0 found)
        ∙ shown_here (bytes_eq raw t.0) t.1.shown (shows raw ts) (is_some (find text ts))
        ∙ ap (λ (x : List ℕ). ((t.1.shown && bytes_eq raw t.0) || shows raw ts) || (bytes_eq raw x && true)) (sym ((bytes_eq-Decides text t.0).0 found))
    by false found rest =
        ap (λ z. (t.1.shown && bytes_eq raw t.0) || z) rest
        ∙ sym (or_behind (t.1.shown && bytes_eq raw t.0) (shows raw ts) (bytes_eq raw text && is_some (find text ts)))

module _ (rules : RowRules) (metric : List RuleConf) (target : List Pair) (raw : List ℕ) where
  noted_shows : (c : CacheView) (r : BodyRow) → shows raw (noted rules metric target c r).texts ≡ shows raw c.texts
  noted_shows c r = by (knows r.raw c)
    where
      by : (b : Bool) → shows raw (cond b c (with_put r.raw (row_series rules.honor_labels metric target r) c)).texts ≡ shows raw c.texts
      by true = refl
      by false =
          list_any-append (λ (t : Text). t.1.shown && bytes_eq raw t.0) c.texts ((r.raw, fresh (row_series rules.honor_labels metric target r)) ∷ [])
          ∙ or_none (shows raw c.texts)

  row_shows : (c : CacheView) (r : BodyRow) → shows raw (shown_row rules metric target c r).texts ≡ (shows raw c.texts || bytes_eq raw r.raw)
  row_shows c r =
      stamped_shows raw r.raw (is_tracked rules r) (noted rules metric target c r).texts
      ∙ ap₂ (λ a b. a || (bytes_eq raw r.raw && b)) (noted_shows c r) (noted_known rules metric target c r)
      ∙ ap (λ b. shows raw c.texts || b) (and_all (bytes_eq raw r.raw))

  all_shows : (rows : List BodyRow) (c : CacheView) →
      shows raw (shown_all rules metric target c rows).texts ≡ (shows raw c.texts || has_text raw (map (λ (r : BodyRow). r.raw) rows))
  all_shows [] c = sym (or_none (shows raw c.texts))
  all_shows (r ∷ rs) c =
      all_shows rs (shown_row rules metric target c r)
      ∙ ap (λ a. a || has_text raw (map (λ (s : BodyRow). s.raw) rs)) (row_shows c r)
      ∙ or_behind (shows raw c.texts) (bytes_eq raw r.raw) (has_text raw (map (λ (s : BodyRow). s.raw) rs))

  -- nothing was shown before
  unshown_none : (ts : List Text) → shows raw (map unshown ts) ≡ false
  unshown_none [] = refl
  unshown_none (t ∷ ts) = unshown_none ts

  rest_none : (c : CacheView) → IsAtRest c → shows raw c.texts ≡ false
  rest_none c rest = ap (λ (v : CacheView). shows raw v.texts) (sym rest) ∙ unshown_none (take c.kept c.texts)

  pub reply_shows : (c : CacheView) (o : Result (List BodyRow) ScrapeFault) → IsAtRest c → shows raw (texts_by rules metric target c o).texts ≡ has_text raw (row_texts o)
  reply_shows c (Ok rows) rest = all_shows rows c ∙ ap (λ a. a || has_text raw (map (λ (r : BodyRow). r.raw) rows)) (rest_none c rest)
  reply_shows c (Err f) rest = rest_none c rest

-- a reply takes nothing of what was known before
module _ (rules : RowRules) (metric : List RuleConf) (target : List Pair) where
  pub noted_grows : (c : CacheView) (r : BodyRow) → length c.texts ≤ length (noted rules metric target c r).texts
  noted_grows c r = by (knows r.raw c)
    where
      by : (b : Bool) → length c.texts ≤ length (cond b c (with_put r.raw (row_series rules.honor_labels metric target r) c)).texts
      by true = omega arith
      by false =
          let n = length-append c.texts ((r.raw, fresh (row_series rules.honor_labels metric target r)) ∷ []) in
          omega (arith, n)

  pub row_length : (c : CacheView) (r : BodyRow) → length (shown_row rules metric target c r).texts ≡ length (noted rules metric target c r).texts
  row_length c r = length-map (noted rules metric target c r).texts (stamped r.raw (is_tracked rules r))

  all_grows : (rows : List BodyRow) (c : CacheView) → length c.texts ≤ length (shown_all rules metric target c rows).texts
  all_grows [] c = omega arith
  all_grows (r ∷ rs) c =
      let rest = all_grows rs (shown_row rules metric target c r) in
      omega (arith, rest, row_length c r, noted_grows c r)

  pub take_grows : (rows : List BodyRow) (i : ℕ) (c : CacheView) → length (shown_all rules metric target c (take i rows)).texts ≤ length (shown_all rules metric target c rows).texts
  take_grows [] zero c = omega arith
  take_grows [] (suc i) c = omega arith
  take_grows (r ∷ rs) zero c = all_grows (r ∷ rs) c
  take_grows (r ∷ rs) (suc i) c = take_grows rs i (shown_row rules metric target c r)

  -- nor do the texts of a reply
  pub reply_grows : (c : CacheView) (o : Result (List BodyRow) ScrapeFault) → length c.texts ≤ length (texts_by rules metric target c o).texts
  reply_grows c (Ok rows) = all_grows rows c
  reply_grows c (Err f) = omega arith

  noted_few : (c : CacheView) (r : BodyRow) → KeepsFew c → KeepsFew (noted rules metric target c r)
  noted_few c r few = by (knows r.raw c)
    where
      by : (b : Bool) → KeepsFew (cond b c (with_put r.raw (row_series rules.honor_labels metric target r) c))
      by true = few
      by false =
          let n = length-append c.texts ((r.raw, fresh (row_series rules.honor_labels metric target r)) ∷ []) in
          omega (arith, n, few)

  noted_undone : (c : CacheView) (r : BodyRow) → KeepsFew c → undone (noted rules metric target c r) ≡ undone c
  noted_undone c r few = by (knows r.raw c)
    where
      by : (b : Bool) → undone (cond b c (with_put r.raw (row_series rules.honor_labels metric target r) c)) ≡ undone c
      by true = refl
      by false = put_undone r.raw (row_series rules.honor_labels metric target r) c few

  row_few : (c : CacheView) (r : BodyRow) → KeepsFew c → KeepsFew (shown_row rules metric target c r)
  row_few c r few =
      let n = length-map (noted rules metric target c r).texts (stamped r.raw (is_tracked rules r)) in
      let k = kept_noted (knows r.raw c) in
      let m = noted_few c r few in
      omega (arith, n, k, m)
    where
      kept_noted : (b : Bool) → (cond b c (with_put r.raw (row_series rules.honor_labels metric target r) c)).kept ≡ c.kept
      kept_noted true = refl
      kept_noted false = refl

  all_undone : (rows : List BodyRow) (c : CacheView) → KeepsFew c → undone (shown_all rules metric target c rows) ≡ undone c
  all_undone [] c few = refl
  all_undone (r ∷ rs) c few =
      all_undone rs (shown_row rules metric target c r) (row_few c r few)
      ∙ stamp_undone r.raw (is_tracked rules r) (noted rules metric target c r) ∙ noted_undone c r few

  pub reply_undone : (c : CacheView) (o : Result (List BodyRow) ScrapeFault) → KeepsFew c → undone (texts_by rules metric target c o) ≡ undone c
  reply_undone c (Ok rows) few = all_undone rows c few
  reply_undone c (Err f) few = refl

-- the texts after a scrape that isn't good are those that are left where all is taken back
pub failed_texts : (ts : List Text) → map (λ (t : Text). t.0) (map failed ts) ≡ map (λ (t : Text). t.0) (map unshown ts)
failed_texts [] = refl
failed_texts (t ∷ ts) = ap (λ xs. t.0 ∷ xs) (failed_texts ts)

pub known_law : (l : LifeView) (rules : RowRules) (metric : List RuleConf) (reply : Reply) (took : ℤ) → IsAtRest l.cache → KeepsFew l.cache → KnownLaw l rules metric reply took
known_law l rules metric reply took rest few =
    let o = rows_or_fault rules reply took in
    let d = texts_by rules metric l.target l.cache o in
    record {
      good = λ e raw. ap (λ b. has_text raw (texts_in (turned b d))) e ∙ turned_has raw d.texts ∙ reply_shows rules metric l.target raw l.cache o rest;
      bad = λ e.
          ap (λ b. texts_in (turned b d)) e ∙ failed_texts (take d.kept d.texts)
          ∙ ap texts_in (reply_undone rules metric l.target l.cache o few ∙ rest);
    }

pub known_at : (l : LifeView) (inside seeded : CacheView) → inside ≡ l.cache → IsAtRest inside → seeded ≡ inside → KeepsFew seeded →
    (rules : RowRules) (metric : List RuleConf) (reply : Reply) (took : ℤ) → KnownLaw l rules metric reply took
known_at l inside seeded is rest same few rules metric reply took = known_law l rules metric reply took (subst IsAtRest is rest) (subst KeepsFew (same ∙ is) few)
