-- Lists of label sets as finite sets: what their members alone tell.
use Rattle.std.proofs.Common.{◌≡◌, Bool, true, false, ◌||◌, List, [], ◌∷◌, refl, sym, ap, ap₂, ◌∙◌, true≢false}
use Rattle.std.specs.BTreeSet.{insert_key}
use Rattle.std.specs.List.Sorted.{IsStrictlySortedBy}
use Rattle.std.specs.Ordering.{is_eq, match_ordering}
use Rattle.std.specs.declared.cmp.Ordering.{Ordering}
use Rattle.std.specs.declared.cmp.Ordering.TheVariants.{Less, Equal, Greater}
use Rattle.label_set.specs.Same.{sets_decide}
use Rattle.label_set.specs.Sets.{set_cmp}
use Rattle.label_set.specs.declared.texts.Pair.{Pair}
use Rattle.series_cache.specs.Sets.{IsRising, gone, has, rising}
use Rattle.series_cache.proofs.VanishLemmas.{above-equal, has-first, rising_rises}
use Rattle.series_cache.proofs.OrderLemmas.{above, above-more, none-above, turned}

-- sets that comparing doesn't tell apart are the same
pub exact : (x y : List Pair) → set_cmp x y ≡ Equal → x ≡ y
exact x y e = (sets_decide x y).0 (ap is_eq e)

or_twice : (b c : Bool) → (b || c) ≡ (b || (b || c))
or_twice true c = refl
or_twice false c = refl

or_swap : (a b c : Bool) → (a || (b || c)) ≡ (b || (a || c))
or_swap true true c = refl
or_swap true false c = refl
or_swap false b c = refl

-- a set that is put is a member
pub has_put : (x s : List Pair) (ys : List (List Pair)) → has x (insert_key set_cmp ys s) ≡ (is_eq (set_cmp x s) || has x ys)
has_put x s [] = refl
has_put x s (y ∷ ys) = by (set_cmp s y) refl (has_put x s ys)
  where
    by : (o : Ordering) → set_cmp s y ≡ o → has x (insert_key set_cmp ys s) ≡ (is_eq (set_cmp x s) || has x ys) →
        has x (match_ordering o (s ∷ y ∷ ys) (y ∷ ys) (y ∷ insert_key set_cmp ys s)) ≡ (is_eq (set_cmp x s) || (is_eq (set_cmp x y) || has x ys))
    by Less e rest = refl
    by Equal e rest =
        or_twice (is_eq (set_cmp x y)) (has x ys) ∙ ap (λ (z : List Pair). is_eq (set_cmp x z) || (is_eq (set_cmp x y) || has x ys)) (sym (exact s y e))
    by Greater e rest = ap (λ b. is_eq (set_cmp x y) || b) rest ∙ or_swap (is_eq (set_cmp x y)) (is_eq (set_cmp x s)) (has x ys)

-- the rising list of sets has the same members
pub has_rising : (x : List Pair) (xs : List (List Pair)) → has x (rising xs) ≡ has x xs
has_rising x [] = refl
has_rising x (y ∷ ys) = has_put x y (rising ys) ∙ ap (λ b. is_eq (set_cmp x y) || b) (has_rising x ys)

-- members of both of two lists
abbrev pub AreAlike : List (List Pair) → List (List Pair) → Type 0
AreAlike xs ys = (x : List Pair) → has x xs ≡ has x ys

-- of two lists with the same first set, which is below the others, the rests are alike
rest_alike : (x y : List Pair) (xs ys : List (List Pair)) → x ≡ y → above x xs → above y ys → AreAlike (x ∷ xs) (y ∷ ys) → AreAlike xs ys
rest_alike x y xs ys e a b f z = by (set_cmp z x) refl
  where
    same_order : (o : Ordering) → set_cmp z x ≡ o → set_cmp z y ≡ o
    same_order o g = ap (set_cmp z) (sym e) ∙ g

    not_first : (o : Ordering) → is_eq o ≡ false → set_cmp z x ≡ o → has z xs ≡ has z ys
    not_first o h g = sym (ap (λ p. is_eq p || has z xs) g ∙ ap (λ c. c || has z xs) h) ∙ f z ∙ ap (λ p. is_eq p || has z ys) (same_order o g) ∙ ap (λ c. c || has z ys) h

    by : (o : Ordering) → set_cmp z x ≡ o → has z xs ≡ has z ys
    by Less g = not_first Less refl g
    by Equal g = none-above z xs (above-equal x z xs (turned x z Equal g) a) ∙ sym (none-above z ys (above-equal y z ys (turned y z Equal (same_order Equal g)) b))
    by Greater g = not_first Greater refl g

-- a rising list is told by its members
pub rises_alike : (xs ys : List (List Pair)) → IsRising xs → IsRising ys → AreAlike xs ys → xs ≡ ys
unfolding IsStrictlySortedBy above
rises_alike [] [] r s f = refl
rises_alike [] (y ∷ ys) r s f = absurd (true≢false (sym (has-first y ys) ∙ sym (f y)))
rises_alike (x ∷ xs) [] r s f = absurd (true≢false (sym (has-first x xs) ∙ f x))
rises_alike (x ∷ xs) (y ∷ ys) r s f = by (set_cmp x y) refl (rises_alike xs ys r.1 s.1)
  where
    by : (o : Ordering) → set_cmp x y ≡ o → (AreAlike xs ys → xs ≡ ys) → x ∷ xs ≡ y ∷ ys
    by Less e rest = absurd (true≢false (sym (has-first x xs) ∙ f x ∙ none-above x (y ∷ ys) (e, above-more x y ys e s.0)))
    by Equal e rest = ap₂ (λ (z : List Pair) (zs : List (List Pair)). z ∷ zs) (exact x y e) (rest (rest_alike x y xs ys (exact x y e) r.0 s.0 f))
    by Greater e rest =
        let less = turned y x Greater e in
        absurd (true≢false (sym (has-first y ys) ∙ sym (f y) ∙ none-above y (x ∷ xs) (less, above-more y x xs less r.0)))

pub rising_alike : (xs ys : List (List Pair)) → AreAlike xs ys → rising xs ≡ rising ys
rising_alike xs ys f = rises_alike (rising xs) (rising ys) (rising_rises xs) (rising_rises ys) (λ x. has_rising x xs ∙ f x ∙ sym (has_rising x ys))

-- what is gone is told by the members of what is there
pub gone_alike : (xs ys zs : List (List Pair)) → AreAlike ys zs → gone xs ys ≡ gone xs zs
gone_alike [] ys zs f = refl
gone_alike (x ∷ xs) ys zs f = rw (f x, gone_alike xs ys zs f) refl
