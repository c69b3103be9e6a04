-- How often a key stands among rising ones, and which sets a scrape tracks.
use Rattle.std.proofs.Common.{◌≡◌, Bool, true, false, not, ◌||◌, ◌&&◌, cond, List, [], ◌∷◌, refl, sym, ap, ap₂, subst, ◌∙◌}
use Rattle.std.specs.List.{filter, list_any, AllByRecursion}
use Rattle.std.specs.Ordering.{is_eq, ordering_reverse, match_ordering}
use Rattle.std.specs.declared.cmp.Ordering.{Ordering}
use Rattle.std.specs.declared.cmp.Ordering.TheVariants.{Less, Equal, Greater}
use Rattle.std.specs.BTreeSet.{insert_key}
use Rattle.std.specs.Cmp.{IsTotalOrder}
use Rattle.std.proofs.lemmas.Bool.{true≢false}
use Rattle.label_set.specs.Sets.{set_cmp, sets_total}
use Rattle.label_set.specs.Same.{sets_decide}
use Rattle.label_set.specs.declared.texts.Pair.{Pair}
use Rattle.sample_rows.specs.declared.scrape.Sample.{Sample}
use Rattle.series_cache.specs.Sets.{has, gone, rising}
use Rattle.scrape_loop.specs.Tracked.{samples_of, sets_in, tracked_in, tracked_sets}
use Rattle.scrape_laws.specs.Scrapes.{LifeScrape, same_series, is_sample_of, tracks}

or_twice : (b c : Bool) → (b || c) ≡ (b || (b || c))
or_twice true c = refl
or_twice false c = refl

or_swap : (a b c : Bool) → (a || (b || c)) ≡ (b || (a || c))
or_swap true true c = refl
or_swap true false c = refl
or_swap false b c = refl

-- those of the kept keys that a test of one key takes
module _ {K : Type 0} (t p : K → Bool) (x : K) (exact : (y : K) → t y ≡ true → x ≡ y) where
  kept_step : (y : K) (ys : List K) (b q r : Bool) → t y ≡ b → p y ≡ q → p x ≡ r →
      filter t (filter p ys) ≡ cond r (filter t ys) [] → filter t (cond q (y ∷ filter p ys) (filter p ys)) ≡ cond r (cond b (y ∷ filter t ys) (filter t ys)) []
  kept_step y ys true true true e f g h = ap (λ z. cond z (y ∷ filter t (filter p ys)) (filter t (filter p ys))) e ∙ ap (λ zs. y ∷ zs) h
  kept_step y ys true true false e f g h = absurd (true≢false (sym f ∙ (ap p (sym (exact y e)) ∙ g)))
  kept_step y ys true false true e f g h = absurd (true≢false (sym g ∙ (ap p (exact y e) ∙ f)))
  kept_step y ys true false false e f g h = h
  kept_step y ys false true r e f g h = ap (λ z. cond z (y ∷ filter t (filter p ys)) (filter t (filter p ys))) e ∙ h
  kept_step y ys false false r e f g h = h

  pub filter_kept : (ys : List K) → filter t (filter p ys) ≡ cond (p x) (filter t ys) []
  filter_kept [] = nil_cond (p x)
    where
      nil_cond : (b : Bool) → (let n : List K = [] in n) ≡ cond b [] []
      nil_cond true = refl
      nil_cond false = refl
  filter_kept (y ∷ ys) = kept_step y ys (t y) (p y) (p x) refl refl refl (filter_kept ys)

-- keys that rise
module _ {K : Type 0} (R : K → K → Ordering) where
  abbrev Above : K → List K → Type 0
  Above x ys = AllByRecursion (λ y. R x y ≡ Less) ys

  abbrev Rises : List K → Type 0
  Rises [] = Unit {0}
  Rises (x ∷ xs) = Above x xs × Rises xs

module _ {K : Type 0} (R : K → K → Ordering) (total : IsTotalOrder R) (exact : (x y : K) → R x y ≡ Equal → x ≡ y) where
  turned : (x y : K) → R y x ≡ Greater → R x y ≡ Less
  turned x y e = total.antisymm x y ∙ ap ordering_reverse e

  all_insert : (P : K → Type 0) (k : K) (xs : List K) → P k → AllByRecursion P xs → AllByRecursion P (insert_key R xs k)
  all_insert P k [] p a = (p, tt)
  all_insert P k (x ∷ xs) p a = by (R k x) (all_insert P k xs p a.1)
    where
      by : (o : Ordering) → AllByRecursion P (insert_key R xs k) → AllByRecursion P (match_ordering o (k ∷ x ∷ xs) (x ∷ xs) (x ∷ insert_key R xs k))
      by Less r = (p, a)
      by Equal r = a
      by Greater r = (a.0, r)

  above_more : (k x : K) (xs : List K) → R k x ≡ Less → Above R x xs → Above R k xs
  above_more k x [] e h = tt
  above_more k x (y ∷ ys) e h = (total.trans k x y e h.0, above_more k x ys e h.1)

  insert_rises : (k : K) (xs : List K) → Rises R xs → Rises R (insert_key R xs k)
  insert_rises k [] h = (tt, tt)
  insert_rises k (x ∷ xs) h = by (R k x) refl (insert_rises k xs h.1)
    where
      by : (o : Ordering) → R k x ≡ o → Rises R (insert_key R xs k) → Rises R (match_ordering o (k ∷ x ∷ xs) (x ∷ xs) (x ∷ insert_key R xs k))
      by Less e r = ((e, above_more k x xs e h.0), h)
      by Equal e r = h
      by Greater e r = (all_insert (λ y. R x y ≡ Less) k xs (turned x k e) h.0, r)

  none_above : (x : K) (ys : List K) → Above R x ys → filter (λ y. is_eq (R x y)) ys ≡ []
  none_above x [] a = refl
  none_above x (y ∷ ys) a =
      ap (λ o. cond (is_eq o) (y ∷ filter (λ z. is_eq (R x z)) ys) (filter (λ z. is_eq (R x z)) ys)) a.0 ∙ none_above x ys a.1

  single_step : (x y : K) (ys : List K) (o : Ordering) → R x y ≡ o → Above R y ys →
      filter (λ z. is_eq (R x z)) ys ≡ cond (list_any (λ z. is_eq (R x z)) ys) (x ∷ []) [] →
      filter (λ z. is_eq (R x z)) (y ∷ ys) ≡ cond (list_any (λ z. is_eq (R x z)) (y ∷ ys)) (x ∷ []) []
  single_step x y ys Less e a r =
      ap (λ o. cond (is_eq o) (y ∷ filter (λ z. is_eq (R x z)) ys) (filter (λ z. is_eq (R x z)) ys)) e
      ∙ (r ∙ sym (ap (λ o. cond (is_eq o || list_any (λ z. is_eq (R x z)) ys) (x ∷ []) []) e))
  single_step x y ys Equal e a r =
      ap (λ o. cond (is_eq o) (y ∷ filter (λ z. is_eq (R x z)) ys) (filter (λ z. is_eq (R x z)) ys)) e
      ∙ (ap₂ (λ z zs. z ∷ zs) (sym (exact x y e)) (none_above x ys (subst (λ z. Above R z ys) (sym (exact x y e)) a))
      ∙ sym (ap (λ o. cond (is_eq o || list_any (λ z. is_eq (R x z)) ys) (x ∷ []) []) e))
  single_step x y ys Greater e a r =
      ap (λ o. cond (is_eq o) (y ∷ filter (λ z. is_eq (R x z)) ys) (filter (λ z. is_eq (R x z)) ys)) e
      ∙ (r ∙ sym (ap (λ o. cond (is_eq o || list_any (λ z. is_eq (R x z)) ys) (x ∷ []) []) e))

  -- a key stands among rising ones at most once
  pub single : (x : K) (ys : List K) → Rises R ys → filter (λ y. is_eq (R x y)) ys ≡ cond (list_any (λ y. is_eq (R x y)) ys) (x ∷ []) []
  single x [] h = refl
  single x (y ∷ ys) h = single_step x y ys (R x y) refl h.0 (single x ys h.1)

  any_insert : (x k : K) (ys : List K) → list_any (λ y. is_eq (R x y)) (insert_key R ys k) ≡ (is_eq (R x k) || list_any (λ y. is_eq (R x y)) ys)
  any_insert x k [] = refl
  any_insert x k (y ∷ ys) = by (R k y) refl (any_insert x k ys)
    where
      by : (o : Ordering) → R k y ≡ o → list_any (λ z. is_eq (R x z)) (insert_key R ys k) ≡ (is_eq (R x k) || list_any (λ z. is_eq (R x z)) ys) →
          list_any (λ z. is_eq (R x z)) (match_ordering o (k ∷ y ∷ ys) (y ∷ ys) (y ∷ insert_key R ys k))
          ≡ (is_eq (R x k) || (is_eq (R x y) || list_any (λ z. is_eq (R x z)) ys))
      by Less e r = refl
      by Equal e r =
          or_twice (is_eq (R x y)) (list_any (λ z. is_eq (R x z)) ys)
          ∙ ap (λ z. is_eq (R x z) || (is_eq (R x y) || list_any (λ z. is_eq (R x z)) ys)) (sym (exact k y e))
      by Greater e r = ap (λ b. is_eq (R x y) || b) r ∙ or_swap (is_eq (R x y)) (is_eq (R x k)) (list_any (λ z. is_eq (R x z)) ys)

-- sets
pub same_sets : (x y : List Pair) → same_series x y ≡ true → x ≡ y
same_sets x y e = (sets_decide x y).0 e

pub same_itself : (x : List Pair) → same_series x x ≡ true
same_itself x = (sets_decide x x).1 refl

exact_sets : (x y : List Pair) → set_cmp x y ≡ Equal → x ≡ y
exact_sets x y e = same_sets x y (ap is_eq e)

abbrev pub copies : List Pair → List (List Pair) → List (List Pair)
copies x xs = filter (same_series x) xs

abbrev pub one_if : List Pair → Bool → List (List Pair)
one_if x b = cond b (x ∷ []) []

rising_rises : (xs : List (List Pair)) → Rises set_cmp (rising xs)
rising_rises [] = tt
rising_rises (x ∷ xs) = insert_rises set_cmp sets_total exact_sets x (rising xs) (rising_rises xs)

rising_has : (x : List Pair) (xs : List (List Pair)) → has x (rising xs) ≡ has x xs
rising_has x [] = refl
rising_has x (y ∷ ys) = any_insert set_cmp sets_total exact_sets x y (rising ys) ∙ ap (λ b. same_series x y || b) (rising_has x ys)

tracked_any : (x : List Pair) (rs : List Sample) → has x (tracked_in rs) ≡ list_any (λ (r : Sample). r.tracked && is_sample_of x r) rs
tracked_any x [] = refl
tracked_any x (r ∷ rs) = by (r.tracked) (tracked_any x rs)
  where
    by : (b : Bool) → has x (tracked_in rs) ≡ list_any (λ (r : Sample). r.tracked && is_sample_of x r) rs →
        has x (sets_in (cond b (r ∷ filter (λ (r : Sample). r.tracked) rs) (filter (λ (r : Sample). r.tracked) rs)))
        ≡ ((b && is_sample_of x r) || list_any (λ (r : Sample). r.tracked && is_sample_of x r) rs)
    by true h = ap (λ b. same_series x r.set || b) h
    by false h = h

-- a scrape tracks a series where that is among its tracked sets
pub tracks_has : (x : List Pair) (s : LifeScrape) → has x (tracked_sets s.outcome) ≡ tracks x s
tracks_has x s = rising_has x (tracked_in (samples_of s.outcome)) ∙ tracked_any x (samples_of s.outcome)

-- and stands there once
pub tracked_copies : (x : List Pair) (s : LifeScrape) → copies x (tracked_sets s.outcome) ≡ one_if x (tracks x s)
tracked_copies x s =
    single set_cmp sets_total exact_sets x (tracked_sets s.outcome) (rising_rises (tracked_in (samples_of s.outcome))) ∙ ap (one_if x) (tracks_has x s)

-- of the old sets one that is gone
pub copies_gone : (x : List Pair) (olds news : List (List Pair)) → copies x (gone olds news) ≡ cond (not (has x news)) (copies x olds) []
copies_gone x olds news = filter_kept (same_series x) (λ y. not (has y news)) x (same_sets x) olds
