-- The endings that are kept in the order of their moments: what joins them and what leaves them.
use Rattle.std.proofs.Common.{◌≡◌, ℕ, zero, suc, ◌+◌, ◌<◌, ◌≤◌, Bool, true, false, not, ◌||◌, cond, List, [], ◌∷◌, ◌++◌, map, length, take, get_or, refl, sym, ap, ◌∙◌, arith, append_assoc, append-nil, sum_by, IsPermutation, nat_cmp, eqb}
use Rattle.std.specs.Prelude.{Result, Ok, Err, IsOk, OnOk, filter, nat_lt, slice_get, slice_index_or}
use Rattle.std.specs.BinaryHeap.{IsUpperBound}
use Rattle.std.specs.List.{list_any}
use Rattle.std.specs.Ordering.{is_lt, ordering_then}
use Rattle.std.specs.declared.cmp.Ordering.{Ordering}
use Rattle.std.specs.declared.cmp.Ordering.TheVariants.{Less, Equal, Greater}
use Rattle.std.specs.declared.cmp.Reverse.{Reverse}
use Rattle.std.proofs.lemmas.Bool.{false≢true, ltb-false, ltb-true, lt-ltb}
use Rattle.std.proofs.lemmas.List.{take_more}
use Rattle.std.proofs.lemmas.List.Sorted.{IsPermutation-map}
use Rattle.std.proofs.lemmas.List.Sums.{sum_by-cons, sum_by-append, sum_by_push}
use Rattle.scrape_machine.specs.declared.lives.Life.{Life}
use Rattle.scrape_steps.specs.Endings.{ending_in, ending_there, endings_at, is_due, is_early, HoldSame}
use Rattle.scrape_steps.proofs.OrderLemmas.{same_shuffled, same_passing, none_passes, others_pass}

-- the order: one of two stands behind where its moment is greater
abbrev pub behind : Reverse (ℕ × ℕ) → Reverse (ℕ × ℕ) → Ordering
behind x y = ordering_then (nat_cmp y.0.0 x.0.0) (nat_cmp y.0.1 x.0.1)

-- a list in another order
pub waits_shuffled : (xs ys : List (Reverse (ℕ × ℕ))) → IsPermutation xs ys → HoldSame (map ending_in xs) (map ending_in ys)
waits_shuffled xs ys h = same_shuffled (map ending_in xs) (map ending_in ys) (IsPermutation-map ending_in xs ys h)

-- where there is room an addition succeeds
pub granted : {A E : Type 0} (r : Result A E) (P : Type 0) → IsOk r → OnOk r P → P
granted (Ok x) P ok p = p
granted (Err e) P ok p = absurd (false≢true ok)

-- what stands first is due at its moment, and none is before it
first_decides : (a b : Ordering) → is_lt (ordering_then a b) ≡ false → is_lt a ≡ false
first_decides Less b h = h
first_decides Equal b h = refl
first_decides Greater b h = h

at_most : (a b : ℕ) → is_lt (nat_cmp a b) ≡ false → b ≤ a
at_most a b h = of (nat_lt a b) refl h
  where
    of : (t : Bool) → nat_lt a b ≡ t → is_lt (cond t Less (cond (eqb a b) Equal Greater)) ≡ false → b ≤ a
    of true e k = absurd (false≢true (sym k))
    of false e k = ltb-false a b e

not_due : (n a b : ℕ) → n < a → a ≤ b → not (nat_lt n b) ≡ false
not_due n a b lt le = ap not (lt-ltb n b (omega (arith, lt, le)))

pub none_due : (n : ℕ) (x : Reverse (ℕ × ℕ)) (ys : List (Reverse (ℕ × ℕ))) → n < x.0.0 → IsUpperBound behind x ys → list_any (is_due n) (map ending_in ys) ≡ false
none_due n x [] lt h = refl
none_due n x (y ∷ ys) lt h =
    let le : x.0.0 ≤ y.0.0 = at_most y.0.0 x.0.0 (first_decides (nat_cmp y.0.0 x.0.0) (nat_cmp y.0.1 x.0.1) h.0) in
    ap (λ b. b || list_any (is_due n) (map ending_in ys)) (not_due n x.0.0 y.0.0 lt le) ∙ none_due n x ys lt h.1

pub top_due : (n : ℕ) (x : Reverse (ℕ × ℕ)) (ys : List (Reverse (ℕ × ℕ))) → IsUpperBound behind x ys → list_any (is_due n) (map ending_in ys) ≡ true → is_due n (ending_in x) ≡ true
top_due n x ys h some = of (nat_lt n x.0.0) refl
  where
    of : (b : Bool) → nat_lt n x.0.0 ≡ b → not (nat_lt n x.0.0) ≡ true
    of true e = absurd (false≢true (sym (none_due n x ys (ltb-true n x.0.0 e) h) ∙ some))
    of false e = ap not e

pub first_reached : (n : ℕ) (x : Reverse (ℕ × ℕ)) (ys : List (Reverse (ℕ × ℕ))) → 0 < length ys → x ≡ slice_index_or ys 0 x → IsUpperBound behind x ys →
    list_any (is_due n) (map ending_in ys) ≡ not (nat_lt n x.0.0)
first_reached n x [] lt at h = absurd (omega arith)
first_reached n x (y ∷ ys) lt at h = of (nat_lt n x.0.0) refl
  where
    of : (b : Bool) → nat_lt n x.0.0 ≡ b → list_any (is_due n) (map ending_in (y ∷ ys)) ≡ not (nat_lt n x.0.0)
    of true e = none_due n x (y ∷ ys) (ltb-true n x.0.0 e) h ∙ sym (ap not e)
    of false e =
        let here : is_due n (ending_in y) ≡ true = ap (λ (z : Reverse (ℕ × ℕ)). is_due n (ending_in z)) (sym at) ∙ ap not e in
        ap (λ b. b || list_any (is_due n) (map ending_in ys)) here ∙ sym (ap not e)

-- one that is due leaves those that wait
early_or_due : (b : Bool) → not b ≡ true → b ≡ false
early_or_due true h = absurd (false≢true h)
early_or_due false h = refl

module _ (m : ℕ) (waits rest : List (ℕ × ℕ)) (e : ℕ × ℕ) (is : is_due m e ≡ true) (h : HoldSame waits (e ∷ rest)) where
  taken_sum : (f : ℕ × ℕ → ℕ) → sum_by f (filter (is_due m) waits) ≡ f e + sum_by f (filter (is_due m) rest)
  taken_sum f =
      same_passing (is_due m) waits (e ∷ rest) h f ∙ ap (λ b. sum_by f (cond b (e ∷ filter (is_due m) rest) (filter (is_due m) rest))) is ∙ sum_by-cons f e (filter (is_due m) rest)

  pub taken_more : (all due more : List (ℕ × ℕ)) → HoldSame all (due ++ filter (is_due m) waits) → more ≡ due ++ e ∷ [] → HoldSame all (more ++ filter (is_due m) rest)
  taken_more all due more was now f =
      let a : sum_by f more ≡ sum_by f due + f e = ap (sum_by f) now ∙ sum_by_push f due e in
      omega (arith, a, was f, sum_by-append f due (filter (is_due m) waits), taken_sum f, sum_by-append f more (filter (is_due m) rest))

  pub left_more : (all : List (ℕ × ℕ)) → HoldSame all (filter (is_early m) waits) → HoldSame all (filter (is_early m) rest)
  left_more all was f =
      was f ∙ same_passing (is_early m) waits (e ∷ rest) h f
      ∙ ap (λ b. sum_by f (cond b (e ∷ filter (is_early m) rest) (filter (is_early m) rest))) (early_or_due (is_early m e) is)

module _ (m : ℕ) (waits : List (ℕ × ℕ)) (none : list_any (is_due m) waits ≡ false) where
  pub taken_all : (all due : List (ℕ × ℕ)) → HoldSame all (due ++ filter (is_due m) waits) → HoldSame all due
  taken_all all due was f = was f ∙ ap (λ zs. sum_by f (due ++ zs)) (none_passes (is_due m) waits none) ∙ ap (sum_by f) (append-nil due)

  pub left_all : (all : List (ℕ × ℕ)) → HoldSame all (filter (is_early m) waits) → HoldSame all waits
  left_all all was f = was f ∙ ap (sum_by f) (others_pass (is_due m) (is_early m) (λ x. refl) waits none)

  pub none_taken : HoldSame (filter (is_due m) waits) []
  none_taken f = ap (sum_by f) (none_passes (is_due m) waits none)

  pub none_left : HoldSame (filter (is_early m) waits) waits
  none_left f = ap (sum_by f) (others_pass (is_due m) (is_early m) (λ x. refl) waits none)

-- one is put back
pub back_more : (all due rest waits more : List (ℕ × ℕ)) (e : ℕ × ℕ) → HoldSame all (due ++ waits) → due ≡ rest ++ e ∷ [] → HoldSame (e ∷ waits) more → HoldSame all (rest ++ more)
back_more all due rest waits more e was is now f =
    let a : sum_by f due ≡ sum_by f rest + f e = ap (sum_by f) is ∙ sum_by_push f rest e in
    omega (arith, a, was f, sum_by-append f due waits, now f, sum_by-cons f e waits, sum_by-append f rest more)

-- a number that stands in a list
pub read_number : (ns : List ℕ) (i d e : ℕ) → i < length ns → get_or ns i d ≡ get_or ns i e
read_number [] i d e lt = absurd (omega arith)
read_number (n ∷ ns) zero d e lt = refl
read_number (n ∷ ns) (suc i) d e lt = read_number ns i d e (omega arith)

-- the endings of lives with some numbers join, one after another
endings_push : (ls : List Life) (ns : List ℕ) (n : ℕ) → endings_at ls (ns ++ n ∷ []) ≡ endings_at ls ns ++ ending_there n (slice_get ls n)
endings_push ls [] n = append-nil (ending_there n (slice_get ls n))
endings_push ls (k ∷ ns) n = ap (λ zs. ending_there k (slice_get ls k) ++ zs) (endings_push ls ns n) ∙ sym (append_assoc (ending_there k (slice_get ls k)) (endings_at ls ns) (ending_there n (slice_get ls n)))

pub joined_more : (ls : List Life) (ns : List ℕ) (i n : ℕ) (had now more : List (ℕ × ℕ)) → i < length ns → n ≡ get_or ns i n → HoldSame (endings_at ls (take i ns) ++ had) now →
    HoldSame (ending_there n (slice_get ls n) ++ now) more → HoldSame (endings_at ls (take (i + 1) ns) ++ had) more
joined_more ls ns i n had now more lt at was is f =
    let front : take (i + 1) ns ≡ take i ns ++ n ∷ [] = take_more ns i n lt ∙ ap (λ z. take i ns ++ z ∷ []) (sym at) in
    let one = ending_there n (slice_get ls n) in
    let a : sum_by f (endings_at ls (take (i + 1) ns)) ≡ sum_by f (endings_at ls (take i ns)) + sum_by f one =
    ap (λ zs. sum_by f (endings_at ls zs)) front ∙ ap (sum_by f) (endings_push ls (take i ns) n) ∙ sum_by-append f (endings_at ls (take i ns)) one in
    omega (arith, a, was f, is f, sum_by-append f (endings_at ls (take i ns)) had, sum_by-append f one now, sum_by-append f (endings_at ls (take (i + 1) ns)) had)
