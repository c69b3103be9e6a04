-- What is in order: a sort by an order under which no two items tie gives the items in order.
use Rattle.std.proofs.Common.{◌≡◌, ◌+◌, Bool, true, false, not, List, [], ◌∷◌, ◌++◌, length, get_or, refl, ap, sym, ◌∙◌, subst, All, arith, inl, inr, ◌⊎◌, ⊎_elim}
use Rattle.std.specs.Prelude.{filter}
use Rattle.std.specs.List.{Contains, IsDistinct}
use Rattle.std.specs.List.Sorted.{IsPermutation, IsSorted, IsStrictlySortedBy}
use Rattle.std.specs.Ordering.{is_lt, is_eq, eq_by_cmp, ordering_reverse}
use Rattle.std.specs.declared.cmp.Ordering.{Ordering}
use Rattle.std.specs.declared.cmp.Ordering.TheVariants.{Less, Equal, Greater}
use Rattle.std.specs.Cmp.{IsTotalOrder, then_total, on_total}
use Rattle.std.specs.Cmp.Lexicographic.{nat_list_cmp_total}
use Rattle.std.proofs.lemmas.Cmp.{nat_cmp_total, eq_by_cmp_equiv}
use Rattle.std.proofs.lemmas.List.Sorted.{IsPermutation-refl, IsPermutation-sym, IsPermutation-trans, IsPermutation-cons, IsPermutation-middle, IsPermutation-filter_both, Contains-permutation}
use Rattle.std.proofs.lemmas.List.Elements.{All-from_recursion, recursion_from_All, All-contains, All-append, All-cons, All-weaker, All-filter, filter_passes, All-tail, All-head, Contains-append_right, Contains-append_cases, Contains-push_cases}
use Rattle.std.proofs.lemmas.List.Kept.{IsStrictlySortedBy-filter}
use Rattle.std.proofs.lemmas.Map.Keys.{sorted_head, sorted_tail, IsDistinct-head, IsDistinct-tail, IsDistinct-IsPermutation, apart_from_distinct, sorted_from_all_adjacent}
use Rattle.std.proofs.lemmas.Map.Made.{Contains-tail}
use Rattle.label_set.specs.declared.texts.Pair.{Pair}
use Rattle.label_conflict.specs.Orders.{by_name, by_length, placed, in_order}

pub by_name_total : IsTotalOrder by_name
by_name_total = on_total (λ (p : Pair). p.name) nat_list_cmp_total

pub by_length_total : IsTotalOrder by_length
by_length_total = then_total (on_total (λ (p : Pair). length p.name) nat_cmp_total) (on_total (λ (p : Pair). p.name) nat_list_cmp_total)

module _ {X : Type 0} (cmp : X → X → Ordering) where
  placed_moves : (x : X) (xs : List X) → IsPermutation (x ∷ xs) (placed cmp x xs)
  placed_moves x xs =
      let f : X → Bool = λ y. is_lt (cmp y x) in
      let g : X → Bool = λ y. not (is_lt (cmp y x)) in
      IsPermutation-trans _ _ _ (IsPermutation-cons x _ _ (IsPermutation-filter_both f g (λ y. refl) xs))
      (IsPermutation-sym _ _ (IsPermutation-middle (filter f xs) x (filter g xs)))

  -- putting items in order only moves them
  pub in_order_moves : (xs : List X) → IsPermutation xs (in_order cmp xs)
  in_order_moves [] = IsPermutation-refl []
  in_order_moves (x ∷ xs) = IsPermutation-trans _ _ _ (IsPermutation-cons x _ _ (in_order_moves xs)) (placed_moves x (in_order cmp xs))

less_from : (o : Ordering) → is_lt (ordering_reverse o) ≡ false → is_eq o ≡ false → o ≡ Less
less_from Less e h = refl
less_from Equal e h = absurd cc
less_from Greater e h = absurd cc

less_is : (o : Ordering) → is_lt o ≡ true → o ≡ Less
less_is Less e = refl
less_is Equal e = absurd cc
less_is Greater e = absurd cc

no_not : (b : Bool) → not b ≡ true → b ≡ false
no_not true e = absurd cc
no_not false e = refl

here : {X : Type 0} (x : X) (xs : List X) → Contains (x ∷ xs) x
here x xs = (0, omega arith, refl)

later : {X : Type 0} (y : X) (ys : List X) (x : X) → Contains ys x → Contains (y ∷ ys) x
later y ys x h = Contains-append_right (y ∷ []) ys x h

none_in : {X : Type 0} (x : X) → Contains [] x → ⊥
none_in x (k, h, e) = omega (arith, h)

module _ {X : Type 0} (cmp : X → X → Ordering) (o : IsTotalOrder cmp) where
  below : X → X → Type 0
  below x y = cmp x y ≡ Less

  not_both : (x y : X) → cmp x y ≡ Less → cmp y x ≡ Less → ⊥
  not_both x y e h = let back : Less ≡ Greater = sym e ∙ o.antisymm x y ∙ ap ordering_reverse h in absurd cc

  not_itself : (x : X) → cmp x x ≡ Less → ⊥
  not_itself x e = not_both x x e e

  -- from what a sort says of neighbours that don't tie
  neighbours : (x y : X) → is_lt (cmp y x) ≡ false → eq_by_cmp cmp x y ≡ false → cmp x y ≡ Less
  neighbours x y e h = less_from (cmp x y) (ap is_lt (sym (o.antisymm y x)) ∙ e) h

  joined_rises : (xs ys : List X) → IsStrictlySortedBy cmp xs → IsStrictlySortedBy cmp ys → All (λ x. All (λ y. cmp x y ≡ Less) ys) xs → IsStrictlySortedBy cmp (xs ++ ys)
  unfolding IsStrictlySortedBy
  joined_rises [] ys s t h = t
  joined_rises (x ∷ xs) ys s t h = (
    recursion_from_All (λ y. cmp x y ≡ Less) (xs ++ ys) (All-append (λ y. cmp x y ≡ Less) xs ys (All-from_recursion (λ y. cmp x y ≡ Less) xs s.0) (All-head (λ z. All (λ y. cmp z y ≡ Less) ys) x xs h)),
    joined_rises xs ys s.1 t (All-tail (λ z. All (λ y. cmp z y ≡ Less) ys) x xs h),
  )

  front_rises : (x : X) (ys : List X) → All (λ y. cmp x y ≡ Less) ys → IsStrictlySortedBy cmp ys → IsStrictlySortedBy cmp (x ∷ ys)
  unfolding IsStrictlySortedBy
  front_rises x ys h s = (recursion_from_All (λ y. cmp x y ≡ Less) ys h, s)

  part_below : (x : X) (xs : List X) → All (λ y. cmp y x ≡ Less) (filter (λ y. is_lt (cmp y x)) xs)
  part_below x xs = All-weaker (λ y. is_lt (cmp y x) ≡ true) (λ y. cmp y x ≡ Less) (λ y e. less_is (cmp y x) e) _ (filter_passes (λ y. is_lt (cmp y x)) xs)

  part_above : (x : X) (xs : List X) → All (λ y. eq_by_cmp cmp x y ≡ false) xs → All (λ y. cmp x y ≡ Less) (filter (λ y. not (is_lt (cmp y x))) xs)
  part_above x xs h =
      let f : X → Bool = λ y. not (is_lt (cmp y x)) in
      let passes = filter_passes f xs in
      let apart = All-filter f (λ y. eq_by_cmp cmp x y ≡ false) xs h in
      λ k d i. neighbours x (get_or (filter f xs) k d) (no_not _ (passes k d i)) (apart k d i)

  placed_rises : (x : X) (xs : List X) → IsStrictlySortedBy cmp xs → All (λ y. eq_by_cmp cmp x y ≡ false) xs → IsStrictlySortedBy cmp (placed cmp x xs)
  placed_rises x xs s h =
      let f : X → Bool = λ y. is_lt (cmp y x) in
      let g : X → Bool = λ y. not (is_lt (cmp y x)) in
      let up = part_above x xs h in
      joined_rises (filter f xs) (x ∷ filter g xs) (IsStrictlySortedBy-filter cmp f xs s)
      (front_rises x (filter g xs) up (IsStrictlySortedBy-filter cmp g xs s))
      (All-weaker (λ y. cmp y x ≡ Less) (λ y. All (λ z. cmp y z ≡ Less) (x ∷ filter g xs))
      (λ y e. All-cons (λ z. cmp y z ≡ Less) x (filter g xs) e (All-weaker (λ z. cmp x z ≡ Less) (λ z. cmp y z ≡ Less) (λ z l. o.trans y x z e l) _ up))
      _ (part_below x xs))

  nothing_rises : IsStrictlySortedBy cmp []
  unfolding IsStrictlySortedBy
  nothing_rises = tt

  -- items of which no two tie rise once they are in order
  pub in_order_rises : (xs : List X) → IsDistinct (eq_by_cmp cmp) xs → IsStrictlySortedBy cmp (in_order cmp xs)
  in_order_rises [] d = nothing_rises
  in_order_rises (x ∷ xs) d =
      let e = eq_by_cmp cmp in
      let moved = IsDistinct-IsPermutation e (eq_by_cmp_equiv o).symm (x ∷ xs) (x ∷ in_order cmp xs) (IsPermutation-cons x _ _ (in_order_moves cmp xs)) d in
      placed_rises x (in_order cmp xs) (in_order_rises xs (IsDistinct-tail e x xs d))
      (All-from_recursion (λ y. e x y ≡ false) _ (IsDistinct-head e x _ moved))

  sorted_rises : (y : X) (ys : List X) → IsSorted cmp (y ∷ ys) → IsDistinct (eq_by_cmp cmp) (y ∷ ys) → IsStrictlySortedBy cmp (y ∷ ys)
  sorted_rises y ys s d =
      sorted_from_all_adjacent o (y ∷ ys) y
      (λ k h. neighbours (get_or (y ∷ ys) k y) (get_or (y ∷ ys) (k + 1) y) (s k y (omega arith) h) (apart_from_distinct (eq_by_cmp cmp) (y ∷ ys) k (k + 1) y d (omega arith) h))

  -- after a sort of items of which no two tie
  pub sort_rises : (xs ys : List X) → IsDistinct (eq_by_cmp cmp) xs → IsPermutation xs ys → IsSorted cmp ys → IsStrictlySortedBy cmp ys
  sort_rises xs [] d m s = nothing_rises
  sort_rises xs (y ∷ ys) d m s = sorted_rises y ys s (IsDistinct-IsPermutation (eq_by_cmp cmp) (eq_by_cmp_equiv o).symm xs (y ∷ ys) m d)

  first_or_later : (y : X) (ys : List X) (x : X) → Contains (y ∷ ys) x → (y ≡ x) ⊎ Contains ys x
  first_or_later y ys x h =
      ⊎_elim
      (λ (one : Contains (y ∷ []) x). ⊎_elim (λ (none : Contains [] x). absurd (none_in x none)) (λ (e : y ≡ x). inl e) (Contains-push_cases [] y x one))
      (λ (rest : Contains ys x). inr rest) (Contains-append_cases (y ∷ []) ys x h)

  head_below : (x : X) (xs : List X) (y : X) → IsStrictlySortedBy cmp (x ∷ xs) → Contains xs y → cmp x y ≡ Less
  head_below x xs y s h = All-contains (λ z. cmp x z ≡ Less) xs y (All-from_recursion (λ z. cmp x z ≡ Less) xs (sorted_head cmp x xs s)) h

  same_head : (x : X) (xs : List X) (y : X) (ys : List X) → IsStrictlySortedBy cmp (x ∷ xs) → IsStrictlySortedBy cmp (y ∷ ys) →
      (y ≡ x) ⊎ Contains ys x → (x ≡ y) ⊎ Contains xs y → x ≡ y
  same_head x xs y ys s t (inl e) h = sym e
  same_head x xs y ys s t (inr m) (inl e) = e
  same_head x xs y ys s t (inr m) (inr n) = absurd (not_both x y (head_below x xs y s n) (head_below y ys x t m))

  in_rest : (x : X) (xs : List X) (y : X) (ys : List X) → IsStrictlySortedBy cmp (x ∷ xs) → x ≡ y → ((z : X) → Contains (x ∷ xs) z → Contains (y ∷ ys) z) →
      (z : X) → Contains xs z → Contains ys z
  in_rest x xs y ys s e f z h =
      Contains-tail y ys z (λ (same : y ≡ z). not_itself x (subst (λ w. cmp x w ≡ Less) (sym (e ∙ same)) (head_below x xs z s h))) (f z (later x xs z h))

  -- lists that rise and have the same items are the same
  same_items : (xs ys : List X) → IsStrictlySortedBy cmp xs → IsStrictlySortedBy cmp ys →
      ((z : X) → Contains xs z → Contains ys z) → ((z : X) → Contains ys z → Contains xs z) → xs ≡ ys
  same_items [] [] s t f g = refl
  same_items [] (y ∷ ys) s t f g = absurd (none_in y (g y (here y ys)))
  same_items (x ∷ xs) [] s t f g = absurd (none_in x (f x (here x xs)))
  same_items (x ∷ xs) (y ∷ ys) s t f g =
      let e : x ≡ y = same_head x xs y ys s t (first_or_later y ys x (f x (here x xs))) (first_or_later x xs y (g y (here y ys))) in
      let rest : xs ≡ ys = same_items xs ys (sorted_tail cmp x xs s) (sorted_tail cmp y ys t) (in_rest x xs y ys s e f) (in_rest y ys x xs t (sym e) g) in
      ap (λ z. z ∷ xs) e ∙ ap (λ zs. y ∷ zs) rest

  -- a sort of items of which no two tie gives the items in order
  pub sort_is : (xs ys : List X) → IsDistinct (eq_by_cmp cmp) xs → IsPermutation xs ys → IsSorted cmp ys → ys ≡ in_order cmp xs
  sort_is xs ys d m s =
      let back = IsPermutation-sym xs ys m in
      let other = in_order_moves cmp xs in
      same_items ys (in_order cmp xs) (sort_rises xs ys d m s) (in_order_rises xs d)
      (λ z h. Contains-permutation xs (in_order cmp xs) z other (Contains-permutation ys xs z back h))
      (λ z h. Contains-permutation xs ys z m (Contains-permutation (in_order cmp xs) xs z (IsPermutation-sym xs (in_order cmp xs) other) h))
