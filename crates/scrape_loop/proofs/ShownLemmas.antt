-- The texts that rows show have the sets of the samples that are left of them.
use Rattle.std.proofs.Common.{◌≡◌, ℕ, ◌+◌, Bool, true, false, cond, ◌||◌, ◌&&◌, if◌then◌else◌, List, [], ◌∷◌, ◌++◌, map, flat_map, Option, Some, None, is_some, refl, sym, ap, ap₂, ◌∙◌}
use Rattle.std.specs.Prelude.{All}
use Rattle.std.specs.Option.{option_to_list}
use Rattle.std.specs.Ordering.{is_eq}
use Rattle.std.specs.Str.{bytes_eq}
use Rattle.std.proofs.lemmas.List.Folds.{list_any-append}
use Rattle.std.proofs.lemmas.List.Elements.{All-head, All-tail}
use Rattle.std.proofs.lemmas.Slice.Eq.{bytes_eq-Decides}
use Rattle.label_set.specs.Sets.{set_cmp}
use Rattle.label_set.specs.declared.texts.Pair.{Pair}
use Rattle.rule_conf.specs.declared.conf.RuleConf.{RuleConf}
use Rattle.expo_reader.specs.declared.rows.BodyRow.{BodyRow}
use Rattle.sample_rows.specs.Rows.{left_from, left_row, is_tracked, row_series, samples_of}
use Rattle.sample_rows.specs.declared.scrape.RowRules.{RowRules}
use Rattle.sample_rows.specs.declared.scrape.Sample.{Sample}
use Rattle.series_cache.specs.Caches.{CacheView, find, set_if, stamped, was_sets}
use Rattle.series_cache.specs.Remembered.{fresh, marked}
use Rattle.series_cache.specs.Sets.{has}
use Rattle.series_cache.specs.declared.known.Known.{Known}
use Rattle.series_cache.proofs.CacheLemmas.{last_counts_not, sets_by, was_put, was_stamped}
use Rattle.scrape_loop.specs.Texts.{Text, knows, with_put, noted, shown_row, shown_all, IsRight, IsRightFor, AreRight}
use Rattle.scrape_loop.specs.Tracked.{sets_in, tracked_in}
use Rattle.scrape_loop.proofs.RightLemmas.{Tells, noted_right, row_right}
use Rattle.scrape_loop.proofs.TextLemmas.{noted_known}

has_both : (x : List Pair) (xs ys : List (List Pair)) → has x (xs ++ ys) ≡ (has x xs || has x ys)
has_both x xs ys = list_any-append (λ (y : List Pair). is_eq (set_cmp x y)) xs ys

or_behind : (a b c : Bool) → (a || (b || c)) ≡ ((a || b) || c)
or_behind true b c = refl
or_behind false b c = refl

-- a set that counts once more
once_more : (x : List Pair) (a b : Bool) (set : Option (List Pair)) → has x (set_if (a || b) set) ≡ (has x (set_if a set) || has x (set_if b set))
once_more x false b set = refl
once_more x true true set = by (has x (option_to_list set))
  where
    by : (t : Bool) → t ≡ (t || t)
    by true = refl
    by false = refl
once_more x true false set = by (has x (option_to_list set))
  where
    by : (t : Bool) → t ≡ (t || false)
    by true = refl
    by false = refl

-- here or behind
here : (t s a f : Bool) → ((t || s) || (a || (f && s))) ≡ ((t || a) || s)
here true s a f = refl
here false true true f = refl
here false true false f = refl
here false false true f = refl
here false false false true = refl
here false false false false = refl

-- a text that is shown counts from then on where the stamp says so; each text that has this name has this set
module _ (counts : Known → Bool) (m tracked : Bool) (law : (k : Known) → counts (marked tracked k) ≡ (counts k || m)) (raw : List ℕ) (set : Option (List Pair))
    (P : Text → Type 0) (same : (t : Text) → P t → bytes_eq raw t.0 ≡ true → t.1.set ≡ set) (x : List Pair) where
  stamped_has : (ts : List Text) → All P ts → has x (sets_by counts (map (stamped raw tracked) ts)) ≡ (has x (sets_by counts ts) || (is_some (find raw ts) && has x (set_if m set)))
  stamped_has [] all = refl
  stamped_has (t ∷ ts) all = by (bytes_eq raw t.0) refl (stamped_has ts (All-tail P t ts all))
    where
      S : Bool
      S = has x (set_if m set)

      A : Bool
      A = has x (sets_by counts ts)

      F : Bool
      F = is_some (find raw ts)

      by : (b : Bool) → bytes_eq raw t.0 ≡ b → has x (sets_by counts (map (stamped raw tracked) ts)) ≡ (A || (F && S)) →
          has x (sets_by counts ((if b then (t.0, marked tracked t.1) else t) ∷ map (stamped raw tracked) ts)) ≡ (has x (sets_by counts (t ∷ ts)) || (is_some (cond b (Some t.1) (find raw ts)) && S))
      by true e rest =
          let its = same t (All-head P t ts all) e in
          has_both x (set_if (counts (marked tracked t.1)) t.1.set) (sets_by counts (map (stamped raw tracked) ts))
          ∙ ap₂ (λ (a : Bool) (n : Bool). has x (set_if a t.1.set) || n) (law t.1) rest
          ∙ ap (λ (n : Bool). n || (A || (F && S))) (once_more x (counts t.1) m t.1.set ∙ ap (λ (s : Option (List Pair)). has x (set_if (counts t.1) t.1.set) || has x (set_if m s)) its)
          ∙ here (has x (set_if (counts t.1) t.1.set)) S A F
          ∙ ap (λ (n : Bool). n || S) (sym (has_both x (set_if (counts t.1) t.1.set) (sets_by counts ts)))
      by false e rest =
          has_both x (set_if (counts t.1) t.1.set) (sets_by counts (map (stamped raw tracked) ts))
          ∙ ap (λ (n : Bool). has x (set_if (counts t.1) t.1.set) || n) rest
          ∙ or_behind (has x (set_if (counts t.1) t.1.set)) A (F && S)
          ∙ ap (λ (n : Bool). n || (F && S)) (sym (has_both x (set_if (counts t.1) t.1.set) (sets_by counts ts)))

-- rows, one after another
module _ (rules : RowRules) (metric : List RuleConf) (target : List Pair) (counts : Known → Bool) (m : BodyRow → Bool)
    (law : (r : BodyRow) (k : Known) → counts (marked (is_tracked rules r) k) ≡ (counts k || m r)) (none : (set : Option (List Pair)) → counts (fresh set) ≡ false)
    (x : List Pair) where
  -- the series of a row
  abbrev series : BodyRow → Option (List Pair)
  series r = row_series rules.honor_labels metric target r

  -- the sets of the rows that count
  abbrev pub row_sets : List BodyRow → List (List Pair)
  row_sets rs = flat_map (λ (r : BodyRow). set_if (m r) (series r)) rs

  -- what is right is so for these rows
  abbrev pub Fits : List BodyRow → Type 0
  Fits rs = (t : Text) → IsRight rules.honor_labels metric target t → All (IsRightFor rules.honor_labels metric target t) rs

  noted_has : (c : CacheView) (r : BodyRow) → sets_by counts (noted rules metric target c r).texts ≡ sets_by counts c.texts
  noted_has c r = by (knows r.raw c)
    where
      by : (b : Bool) → sets_by counts (cond b c (with_put r.raw (series r) c)).texts ≡ sets_by counts c.texts
      by true = refl
      by false = last_counts_not counts c.texts (r.raw, fresh (series r)) (none (series r))

  row_has : (c : CacheView) (r : BodyRow) (rs : List BodyRow) → Fits (r ∷ rs) → Tells rules.honor_labels metric target r → AreRight rules.honor_labels metric target c.texts →
      has x (sets_by counts (shown_row rules metric target c r).texts) ≡ (has x (sets_by counts c.texts) || has x (set_if (m r) (series r)))
  row_has c r rs fits tells right =
      stamped_has counts (m r) (is_tracked rules r) (law r) r.raw (series r) (IsRight rules.honor_labels metric target)
      (λ t is found. All-head (IsRightFor rules.honor_labels metric target t) r rs (fits t is) (sym ((bytes_eq-Decides r.raw t.0).0 found))) x
      (noted rules metric target c r).texts (noted_right rules metric target c r tells right)
      ∙ ap (λ (b : Bool). has x (sets_by counts (noted rules metric target c r).texts) || (b && has x (set_if (m r) (series r)))) (noted_known rules metric target c r)
      ∙ ap (λ (l : List (List Pair)). has x l || has x (set_if (m r) (series r))) (noted_has c r)

  pub rows_have : (rs : List BodyRow) (c : CacheView) → Fits rs → All (Tells rules.honor_labels metric target) rs → AreRight rules.honor_labels metric target c.texts →
      has x (sets_by counts (shown_all rules metric target c rs).texts) ≡ (has x (sets_by counts c.texts) || has x (row_sets rs))
  rows_have [] c fits tells right = by (has x (sets_by counts c.texts))
    where
      by : (b : Bool) → b ≡ (b || false)
      by true = refl
      by false = refl
  rows_have (r ∷ rs) c fits tells right =
      let told = All-head (Tells rules.honor_labels metric target) r rs tells in
      rows_have rs (shown_row rules metric target c r) (λ t is. All-tail (IsRightFor rules.honor_labels metric target t) r rs (fits t is))
      (All-tail (Tells rules.honor_labels metric target) r rs tells) (row_right rules metric target c r told right)
      ∙ ap (λ (b : Bool). b || has x (row_sets rs)) (row_has c r rs fits told right)
      ∙ sym (or_behind (has x (sets_by counts c.texts)) (has x (set_if (m r) (series r))) (has x (row_sets rs)))
      ∙ ap (λ (b : Bool). has x (sets_by counts c.texts) || b) (sym (has_both x (set_if (m r) (series r)) (row_sets rs)))

module _ (rules : RowRules) (metric : List RuleConf) (target : List Pair) where
  -- the sets of the samples that are left
  abbrev left_sets : ℕ → List BodyRow → List Sample
  left_sets n rs = samples_of (left_from rules metric target n rs)

  pub sets_left : (n : ℕ) (rs : List BodyRow) → flat_map (λ (r : BodyRow). option_to_list (row_series rules.honor_labels metric target r)) rs ≡ sets_in (left_sets n rs)
  sets_left n [] = refl
  sets_left n (r ∷ rs) = by (row_series rules.honor_labels metric target r) (sets_left (n + 1) rs)
    where
      by : (o : Option (List Pair)) → flat_map (λ (r : BodyRow). option_to_list (row_series rules.honor_labels metric target r)) rs ≡ sets_in (left_sets (n + 1) rs) →
          option_to_list o ++ flat_map (λ (r : BodyRow). option_to_list (row_series rules.honor_labels metric target r)) rs ≡ sets_in (samples_of (left_row rules n r o ++ left_from rules metric target (n + 1) rs))
      by None rest = rest
      by (Some set) rest = ap (λ (l : List (List Pair)). set ∷ l) rest

  pub tracked_left : (n : ℕ) (rs : List BodyRow) →
      flat_map (λ (r : BodyRow). set_if (is_tracked rules r) (row_series rules.honor_labels metric target r)) rs ≡ tracked_in (left_sets n rs)
  tracked_left n [] = refl
  tracked_left n (r ∷ rs) = by (row_series rules.honor_labels metric target r) (is_tracked rules r) refl (tracked_left (n + 1) rs)
    where
      more : List (List Pair)
      more = flat_map (λ (r : BodyRow). set_if (is_tracked rules r) (row_series rules.honor_labels metric target r)) rs

      by : (o : Option (List Pair)) (b : Bool) → is_tracked rules r ≡ b → more ≡ tracked_in (left_sets (n + 1) rs) →
          set_if b o ++ more ≡ tracked_in (samples_of (left_row rules n r o ++ left_from rules metric target (n + 1) rs))
      by None true e rest = rest
      by None false e rest = rest
      by (Some set) true e rest = rw e (ap (λ (l : List (List Pair)). set ∷ l) rest)
      by (Some set) false e rest = rw e rest

  was_row : (c : CacheView) (r : BodyRow) → was_sets (shown_row rules metric target c r).texts ≡ was_sets c.texts
  was_row c r = was_stamped r.raw (is_tracked rules r) (noted rules metric target c r).texts ∙ by (knows r.raw c)
    where
      by : (b : Bool) → was_sets (cond b c (with_put r.raw (row_series rules.honor_labels metric target r) c)).texts ≡ was_sets c.texts
      by true = refl
      by false = was_put c.texts r.raw (row_series rules.honor_labels metric target r)

  -- the sets that were tracked before stay so
  pub was_shown : (rs : List BodyRow) (c : CacheView) → was_sets (shown_all rules metric target c rs).texts ≡ was_sets c.texts
  was_shown [] c = refl
  was_shown (r ∷ rs) c = was_shown rs (shown_row rules metric target c r) ∙ was_row c r
