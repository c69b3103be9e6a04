-- What sets that are kept by hash tell of their rising list.
use Rattle.std.proofs.Common.{◌≡◌, ℕ, suc, ◌+◌, ◌<◌, arith, get_or, Bool, true, false, cond, not, ◌||◌, List, [], ◌∷◌, length, refl, sym, ap, ap₂, ◌∙◌, true≢false}
use Rattle.std.proofs.lemmas.List.Kept.{IsStrictlySortedBy-filter}
use Rattle.std.proofs.lemmas.List.Sorted.{list_any-IsPermutation}
use Rattle.std.proofs.lemmas.Map.Keys.{IsDistinct-IsPermutation}
use Rattle.std.specs.BTreeSet.{insert_key}
use Rattle.std.specs.HashSet.{HashSet, contains}
use Rattle.std.specs.List.{AllByRecursion, IsDistinct}
use Rattle.std.specs.List.Sorted.{IsPermutation, IsSorted, IsStrictlySortedBy}
use Rattle.std.specs.Ordering.{eq_by_cmp, is_eq, is_lt, ordering_reverse}
use Rattle.std.specs.declared.cmp.Ordering.{Ordering}
use Rattle.std.specs.declared.cmp.Ordering.TheVariants.{Less, Equal, Greater}
use Rattle.label_set.specs.Sets.{set_cmp}
use Rattle.label_set.specs.declared.texts.Pair.{Pair}
use Rattle.series_cache.specs.Sets.{IsRising, gone, has, rising}
use Rattle.series_cache.proofs.MemberLemmas.{exact, has_put, has_rising, rises_alike}
use Rattle.series_cache.proofs.OrderLemmas.{above, above-more, turned}
use Rattle.series_cache.proofs.VanishLemmas.{put_rises, rising_rises}

-- whether a set is among them after one was put or taken out
abbrev Updated : {S : Type 0} → HashSet (List Pair) S → HashSet (List Pair) S → List Pair → Bool → Type 0
Updated old new s b = (q : List Pair) → contains (eq_by_cmp set_cmp) new q ≡ cond (eq_by_cmp set_cmp s q) b (contains (eq_by_cmp set_cmp) old q)

back : (x y : List Pair) → is_eq (set_cmp x y) ≡ is_eq (set_cmp y x)
back x y = ap is_eq (turned x y (set_cmp y x) refl) ∙ same (set_cmp y x)
  where
    same : (o : Ordering) → is_eq (ordering_reverse o) ≡ is_eq o
    same Less = refl
    same Equal = refl
    same Greater = refl

either : (b c : Bool) → cond b true c ≡ (b || c)
either true c = refl
either false c = refl

pub put_kept : {S : Type 0} (s : List Pair) (old new : HashSet (List Pair) S) → Updated old new s true → rising new.keys ≡ insert_key set_cmp (rising old.keys) s
put_kept s old new u =
    rises_alike (rising new.keys) (insert_key set_cmp (rising old.keys) s) (rising_rises new.keys) (put_rises s (rising old.keys) (rising_rises old.keys))
    (λ x.
    has_rising x new.keys ∙ u x ∙ either (is_eq (set_cmp s x)) (has x old.keys)
    ∙ ap₂ (λ b c. b || c) (back s x) (sym (has_rising x old.keys))
    ∙ sym (has_put x s (rising old.keys)))

-- the members that remain
has_left : (x s : List Pair) (ys : List (List Pair)) → has x (gone ys (s ∷ [])) ≡ cond (is_eq (set_cmp s x)) false (has x ys)
has_left x s [] = by (is_eq (set_cmp s x))
  where
    by : (b : Bool) → false ≡ cond b false false
    by true = refl
    by false = refl
has_left x s (y ∷ ys) = by (set_cmp y s) refl (set_cmp x y) refl (has_left x s ys)
  where
    left : List (List Pair)
    left = gone ys (s ∷ [])

    kept : (o : Ordering) → set_cmp y s ≡ o → is_eq o ≡ false → (p : Ordering) → set_cmp x y ≡ p →
        has x left ≡ cond (is_eq (set_cmp s x)) false (has x ys) →
        has x (gone (y ∷ ys) (s ∷ [])) ≡ cond (is_eq (set_cmp s x)) false (has x (y ∷ ys))
    kept o e unequal Less f rest = ap (λ q. has x (cond (not (is_eq q || false)) (y ∷ left) left)) e ∙ ap (λ b. has x (cond (not (b || false)) (y ∷ left) left)) unequal ∙ ap (λ q. is_eq q || has x left) f ∙ rest ∙ ap (λ q. cond (is_eq (set_cmp s x)) false (is_eq q || has x ys)) (sym f)
    kept o e unequal Greater f rest = ap (λ q. has x (cond (not (is_eq q || false)) (y ∷ left) left)) e ∙ ap (λ b. has x (cond (not (b || false)) (y ∷ left) left)) unequal ∙ ap (λ q. is_eq q || has x left) f ∙ rest ∙ ap (λ q. cond (is_eq (set_cmp s x)) false (is_eq q || has x ys)) (sym f)
    kept o e unequal Equal f rest =
        let apart : is_eq (set_cmp s x) ≡ false = back s x ∙ ap (λ z. is_eq (set_cmp z s)) (exact x y f) ∙ ap is_eq e ∙ unequal in
        ap (λ q. has x (cond (not (is_eq q || false)) (y ∷ left) left)) e ∙ ap (λ b. has x (cond (not (b || false)) (y ∷ left) left)) unequal ∙ ap (λ q. is_eq q || has x left) f
        ∙ sym (ap (λ b. cond b false (is_eq (set_cmp x y) || has x ys)) apart ∙ ap (λ q. is_eq q || has x ys) f)

    out : set_cmp y s ≡ Equal → (p : Ordering) → set_cmp x y ≡ p → has x left ≡ cond (is_eq (set_cmp s x)) false (has x ys) →
        has x (gone (y ∷ ys) (s ∷ [])) ≡ cond (is_eq (set_cmp s x)) false (has x (y ∷ ys))
    out e Less f rest = ap (λ q. has x (cond (not (is_eq q || false)) (y ∷ left) left)) e ∙ rest ∙ ap (λ q. cond (is_eq (set_cmp s x)) false (is_eq q || has x ys)) (sym f)
    out e Greater f rest = ap (λ q. has x (cond (not (is_eq q || false)) (y ∷ left) left)) e ∙ rest ∙ ap (λ q. cond (is_eq (set_cmp s x)) false (is_eq q || has x ys)) (sym f)
    out e Equal f rest =
        let same : is_eq (set_cmp s x) ≡ true = back s x ∙ ap (λ z. is_eq (set_cmp z s)) (exact x y f) ∙ ap is_eq e in
        ap (λ q. has x (cond (not (is_eq q || false)) (y ∷ left) left)) e ∙ rest ∙ ap (λ b. cond b false (has x ys)) same
        ∙ sym (ap (λ b. cond b false (is_eq (set_cmp x y) || has x ys)) same)

    by : (o : Ordering) → set_cmp y s ≡ o → (p : Ordering) → set_cmp x y ≡ p → has x left ≡ cond (is_eq (set_cmp s x)) false (has x ys) →
        has x (gone (y ∷ ys) (s ∷ [])) ≡ cond (is_eq (set_cmp s x)) false (has x (y ∷ ys))
    by Less e p f rest = kept Less e refl p f rest
    by Equal e p f rest = out e p f rest
    by Greater e p f rest = kept Greater e refl p f rest

pub removed_kept : {S : Type 0} (s : List Pair) (old new : HashSet (List Pair) S) → Updated old new s false → rising new.keys ≡ gone (rising old.keys) (s ∷ [])
removed_kept s old new u =
    rises_alike (rising new.keys) (gone (rising old.keys) (s ∷ [])) (rising_rises new.keys)
    (IsStrictlySortedBy-filter set_cmp (λ (x : List Pair). not (has x (s ∷ []))) (rising old.keys) (rising_rises old.keys))
    (λ x. has_rising x new.keys ∙ u x ∙ ap (cond (is_eq (set_cmp s x)) false) (sym (has_rising x old.keys)) ∙ sym (has_left x s (rising old.keys)))

-- how many they are
put_length : (s : List Pair) (xs : List (List Pair)) → has s xs ≡ false → length (insert_key set_cmp xs s) ≡ suc (length xs)
put_length s [] h = refl
put_length s (x ∷ xs) h = by (set_cmp s x) refl (put_length s xs)
  where
    by : (o : Ordering) → set_cmp s x ≡ o → (has s xs ≡ false → length (insert_key set_cmp xs s) ≡ suc (length xs)) → length (insert_key set_cmp (x ∷ xs) s) ≡ suc (suc (length xs))
    by Less e rest = rw e refl
    by Equal e rest = absurd (true≢false (sym (ap (λ o. is_eq o || has s xs) e) ∙ h))
    by Greater e rest = rw e (ap suc (rest (sym (ap (λ o. is_eq o || has s xs) e) ∙ h)))

apart : (k : List Pair) (ks : List (List Pair)) → AllByRecursion (λ (y : List Pair). eq_by_cmp set_cmp k y ≡ false) ks → has k ks ≡ false
apart k [] a = refl
apart k (y ∷ ys) a = ap (λ b. b || has k ys) a.0 ∙ apart k ys a.1

pub kept_length : (ks : List (List Pair)) → IsDistinct (eq_by_cmp set_cmp) ks → length (rising ks) ≡ length ks
unfolding IsDistinct
kept_length [] d = refl
kept_length (k ∷ ks) d = put_length k (rising ks) (has_rising k ks ∙ apart k ks d.0) ∙ ap suc (kept_length ks d.1)

-- sets that are sorted and of which none stands there twice rise
sorted_rise : (xs : List (List Pair)) → ((k : ℕ) (d : List Pair) → suc k < length xs → is_lt (set_cmp (get_or xs (suc k) d) (get_or xs k d)) ≡ false) → IsDistinct (eq_by_cmp set_cmp) xs → IsRising xs
unfolding IsDistinct IsStrictlySortedBy above
sorted_rise [] s d = tt
sorted_rise (x ∷ []) s d = ((tt), tt)
sorted_rise (x ∷ y ∷ xs) s d = by (sorted_rise (y ∷ xs) (λ k e h. s (suc k) e (omega (arith, h))) d.1)
  where
    below : (o : Ordering) → set_cmp x y ≡ o → set_cmp x y ≡ Less
    below Less e = e
    below Equal e = absurd (true≢false (sym (ap is_eq e) ∙ d.0.0))
    below Greater e = absurd (true≢false (sym (ap is_lt (turned y x Greater e)) ∙ s 0 x (omega arith)))

    by : IsRising (y ∷ xs) → IsRising (x ∷ y ∷ xs)
    by r = let less = below (set_cmp x y) refl in ((less, above-more x y xs less r.0), r)

pub sorted_kept : (ks xs : List (List Pair)) → IsPermutation ks xs → IsSorted set_cmp xs → IsDistinct (eq_by_cmp set_cmp) ks → xs ≡ rising ks
sorted_kept ks xs p s d =
    rises_alike xs (rising ks) (sorted_rise xs step (IsDistinct-IsPermutation (eq_by_cmp set_cmp) back ks xs p d)) (rising_rises ks)
    (λ x. sym (list_any-IsPermutation (λ (y : List Pair). is_eq (set_cmp x y)) ks xs p) ∙ sym (has_rising x ks))
  where
    step : (k : ℕ) (e : List Pair) → suc k < length xs → is_lt (set_cmp (get_or xs (suc k) e) (get_or xs k e)) ≡ false
    step k e h =
        let one : suc k ≡ k + 1 = omega arith in
        ap (λ (n : ℕ). is_lt (set_cmp (get_or xs n e) (get_or xs k e))) one ∙ s k e (omega arith) (omega (arith, h))
