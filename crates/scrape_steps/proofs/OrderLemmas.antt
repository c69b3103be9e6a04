-- Lists that hold the same in another order, and lists of numbers that rise.
use Rattle.std.proofs.Common.{◌≡◌, ◌⊎◌, inl, inr, ℕ, zero, suc, ◌+◌, ◌<◌, ◌≤◌, Bool, true, false, not, ◌||◌, cond, List, [], ◌∷◌, map, length, get_or, refl, sym, ap, ap₂, ◌∙◌, arith, sum_by, IsPermutation}
use Rattle.std.specs.Prelude.{filter, nat_lt, nat_eq}
use Rattle.std.specs.List.{list_any}
use Rattle.std.specs.List.Sorted.{IsNonDecreasing}
use Rattle.std.proofs.lemmas.Bool.{cases_lt, eq-eqb, false≢true, lt-ltb, ne_eqb}
use Rattle.std.proofs.lemmas.List.Sorted.{sum_by-IsPermutation}
use Rattle.std.proofs.lemmas.List.Sums.{sum_by-cons}
use Rattle.scrape_steps.specs.Endings.{HoldSame}

module _ {A : Type 0} where
  pub same_itself : (xs ys : List A) → xs ≡ ys → HoldSame xs ys
  same_itself xs ys h f = ap (sum_by f) h

  pub same_shuffled : (xs ys : List A) → IsPermutation xs ys → HoldSame xs ys
  same_shuffled xs ys h f = sym (sum_by-IsPermutation f xs ys h)

  -- a sum over those that pass a test
  sum_passing : (q : A → Bool) (f : A → ℕ) (xs : List A) → sum_by f (filter q xs) ≡ sum_by (λ x. cond {A = ℕ} (q x) (f x) 0) xs
  sum_passing q f [] = refl
  sum_passing q f (x ∷ xs) = of (q x) (sum_passing q f xs) ∙ sym (sum_by-cons (λ y. cond {A = ℕ} (q y) (f y) 0) x xs)
    where
      of : (b : Bool) → sum_by f (filter q xs) ≡ sum_by (λ y. cond {A = ℕ} (q y) (f y) 0) xs →
          sum_by f (cond b (x ∷ filter q xs) (filter q xs)) ≡ cond {A = ℕ} b (f x) 0 + sum_by (λ y. cond {A = ℕ} (q y) (f y) 0) xs
      of true e = sum_by-cons f x (filter q xs) ∙ ap (λ n. f x + n) e
      of false e = omega (arith, e)

  pub same_passing : (q : A → Bool) (xs ys : List A) → HoldSame xs ys → HoldSame (filter q xs) (filter q ys)
  same_passing q xs ys h f = sum_passing q f xs ∙ h (λ x. cond {A = ℕ} (q x) (f x) 0) ∙ sym (sum_passing q f ys)

  -- a list falls into those that pass a test and the others
  pub same_parted : (q : A → Bool) (xs : List A) (f : A → ℕ) → sum_by f xs ≡ sum_by f (filter q xs) + sum_by f (filter (λ x. not (q x)) xs)
  same_parted q [] f = refl
  same_parted q (x ∷ xs) f = of (q x) (same_parted q xs f)
    where
      of : (b : Bool) → sum_by f xs ≡ sum_by f (filter q xs) + sum_by f (filter (λ y. not (q y)) xs) →
          sum_by f (x ∷ xs) ≡ sum_by f (cond b (x ∷ filter q xs) (filter q xs)) + sum_by f (cond (not b) (x ∷ filter (λ y. not (q y)) xs) (filter (λ y. not (q y)) xs))
      of true e = omega (arith, e, sum_by-cons f x xs, sum_by-cons f x (filter q xs))
      of false e = omega (arith, e, sum_by-cons f x xs, sum_by-cons f x (filter (λ y. not (q y)) xs))

  -- a sum by what each is seen as
  sum_mapped : {B : Type 0} (g : A → B) (f : B → ℕ) (xs : List A) → sum_by f (map g xs) ≡ sum_by (λ x. f (g x)) xs
  sum_mapped g f [] = refl
  sum_mapped g f (x ∷ xs) = sum_by-cons f (g x) (map g xs) ∙ ap (λ n. f (g x) + n) (sum_mapped g f xs) ∙ sym (sum_by-cons (λ y. f (g y)) x xs)

  pub same_mapped : {B : Type 0} (g : A → B) (xs ys : List A) → HoldSame xs ys → HoldSame (map g xs) (map g ys)
  same_mapped g xs ys h f = sum_mapped g f xs ∙ h (λ x. f (g x)) ∙ sym (sum_mapped g f ys)

  -- one passes a test where the count of those that do isn't 0
  any_counted : (q : A → Bool) (xs : List A) → list_any q xs ≡ nat_lt 0 (sum_by (λ x. cond {A = ℕ} (q x) 1 0) xs)
  any_counted q [] = refl
  any_counted q (x ∷ xs) = of (q x) (any_counted q xs) ∙ ap (nat_lt 0) (sym (sum_by-cons (λ y. cond {A = ℕ} (q y) 1 0) x xs))
    where
      of : (b : Bool) → list_any q xs ≡ nat_lt 0 (sum_by (λ y. cond {A = ℕ} (q y) 1 0) xs) →
          (b || list_any q xs) ≡ nat_lt 0 (cond {A = ℕ} b 1 0 + sum_by (λ y. cond {A = ℕ} (q y) 1 0) xs)
      of true e = sym (lt-ltb 0 (1 + sum_by (λ y. cond {A = ℕ} (q y) 1 0) xs) (omega arith))
      of false e = e ∙ ap (nat_lt 0) (let z : sum_by (λ y. cond {A = ℕ} (q y) 1 0) xs ≡ 0 + sum_by (λ y. cond {A = ℕ} (q y) 1 0) xs = omega arith in z)

  pub any_same : (q : A → Bool) (xs ys : List A) → HoldSame xs ys → list_any q xs ≡ list_any q ys
  any_same q xs ys h = any_counted q xs ∙ ap (nat_lt 0) (h (λ x. cond {A = ℕ} (q x) 1 0)) ∙ sym (any_counted q ys)

  -- where none passes a test, those that do are none, and those that don't all
  pub none_passes : (q : A → Bool) (xs : List A) → list_any q xs ≡ false → filter q xs ≡ []
  none_passes q [] h = refl
  none_passes q (x ∷ xs) h = of (none_passes q xs) (q x) h
    where
      of : (list_any q xs ≡ false → filter q xs ≡ []) → (b : Bool) → (b || list_any q xs) ≡ false → cond b (x ∷ filter q xs) (filter q xs) ≡ []
      of rest true k = absurd (false≢true (sym k))
      of rest false k = rest k

  pub others_pass : (q r : A → Bool) → ((x : A) → q x ≡ not (r x)) → (xs : List A) → list_any q xs ≡ false → filter r xs ≡ xs
  others_pass q r o [] h = refl
  others_pass q r o (x ∷ xs) h = of (others_pass q r o xs) (r x) (sym (ap (λ b. b || list_any q xs) (o x)) ∙ h)
    where
      of : (list_any q xs ≡ false → filter r xs ≡ xs) → (b : Bool) → (not b || list_any q xs) ≡ false → cond b (x ∷ filter r xs) (filter r xs) ≡ x ∷ xs
      of rest true k = ap (λ zs. x ∷ zs) (rest k)
      of rest false k = absurd (false≢true (sym k))

-- each number is no less than the one before it, and the first no less than n
abbrev pub IsUp : ℕ → List ℕ → Type 0
IsUp n [] = Unit {0}
IsUp n (x ∷ xs) = (n ≤ x) × IsUp x xs

pub up_weaker : (m n : ℕ) (xs : List ℕ) → m ≤ n → IsUp n xs → IsUp m xs
up_weaker m n [] le u = tt
up_weaker m n (x ∷ xs) le u = (omega (arith, le, u.0), u.1)

pub up_from : (n : ℕ) (xs : List ℕ) → ((d : ℕ) → 0 < length xs → n ≤ get_or xs 0 d) → IsNonDecreasing xs → IsUp n xs
up_from n [] low h = tt
up_from n (x ∷ xs) low h =
    (low 0 (omega arith), up_from x xs (λ d lt. h zero (suc zero) d (omega arith) (omega arith)) (λ i j d le lt. h (suc i) (suc j) d (omega arith) (omega arith)))

up_all : (n : ℕ) (xs : List ℕ) → IsUp n xs → (i : ℕ) (d : ℕ) → i < length xs → n ≤ get_or xs i d
up_all n [] u i d lt = absurd (omega arith)
up_all n (x ∷ xs) u zero d lt = u.0
up_all n (x ∷ xs) u (suc i) d lt = let q = up_all x xs u.1 i d (omega arith) in omega (arith, q, u.0)

pub up_rises : (n : ℕ) (xs : List ℕ) → IsUp n xs → IsNonDecreasing xs
up_rises n [] u i j d le lt = absurd (omega arith)
up_rises n (x ∷ xs) u zero zero d le lt = omega arith
up_rises n (x ∷ xs) u zero (suc j) d le lt = up_all x xs u.1 j d (omega arith)
up_rises n (x ∷ xs) u (suc i) zero d le lt = absurd (omega arith)
up_rises n (x ∷ xs) u (suc i) (suc j) d le lt = up_rises x xs u.1 i j d (omega arith) (omega arith)

-- how often a number stands in a list
times : ℕ → List ℕ → ℕ
times y xs = sum_by (λ x. cond {A = ℕ} (nat_eq y x) 1 0) xs

times_below : (y n : ℕ) (xs : List ℕ) → y < n → IsUp n xs → times y xs ≡ 0
unfolding times
times_below y n [] lt u = refl
times_below y n (x ∷ xs) lt u =
    let apart : nat_eq y x ≡ false = ne_eqb y x (λ e. omega (arith, e, lt, u.0)) in
    sum_by-cons (λ z. cond {A = ℕ} (nat_eq y z) 1 0) x xs ∙ ap₂ (λ m n. m + n) (ap (λ b. cond {A = ℕ} b 1 0) apart) (times_below y x xs (omega (arith, lt, u.0)) u.1)

times_first : (x : ℕ) (xs : List ℕ) → times x (x ∷ xs) ≡ 1 + times x xs
unfolding times
times_first x xs = sum_by-cons (λ z. cond {A = ℕ} (nat_eq x z) 1 0) x xs ∙ ap (λ b. cond {A = ℕ} b 1 0 + sum_by (λ z. cond {A = ℕ} (nat_eq x z) 1 0) xs) (eq-eqb x x refl)

same_times : (y : ℕ) (xs ys : List ℕ) → HoldSame xs ys → times y xs ≡ times y ys
unfolding times
same_times y xs ys h = h (λ x. cond {A = ℕ} (nat_eq y x) 1 0)

-- rising lists that hold the same are one list
first_same : (x y : ℕ) (xs ys : List ℕ) → IsUp x xs → IsUp y ys → HoldSame (x ∷ xs) (y ∷ ys) → (x < y → ⊥)
first_same x y xs ys u v h lt =
    let a : times x (x ∷ xs) ≡ times x (y ∷ ys) = same_times x (x ∷ xs) (y ∷ ys) h in
    let b : times x (y ∷ ys) ≡ 0 = times_below x y (y ∷ ys) lt (omega arith, v) in
    omega (arith, a, b, times_first x xs)

at_most_by : (a b : ℕ) → (b < a → ⊥) → (b < a) ⊎ (a ≤ b) → a ≤ b
at_most_by a b never (inl lt) = absurd (never lt)
at_most_by a b never (inr le) = le

pub rising_same : (m n : ℕ) (xs ys : List ℕ) → IsUp m xs → IsUp n ys → HoldSame xs ys → xs ≡ ys
rising_same m n [] [] u v h = refl
rising_same m n [] (y ∷ ys) u v h = absurd (omega (arith, h (λ z. 1), sum_by-cons (λ z. 1) y ys))
rising_same m n (x ∷ xs) [] u v h = absurd (omega (arith, h (λ z. 1), sum_by-cons (λ z. 1) x xs))
rising_same m n (x ∷ xs) (y ∷ ys) u v h =
    let low : y ≤ x = at_most_by y x (first_same x y xs ys u.1 v.1 h) (cases_lt x y) in
    let high : x ≤ y = at_most_by x y (first_same y x ys xs v.1 u.1 (λ f. sym (h f))) (cases_lt y x) in
    let e : x ≡ y = omega (arith, low, high) in
    ap₂ (λ z zs. z ∷ zs) e
    (rising_same x y xs ys u.1 v.1 (λ f. let k = ap f e in omega (arith, h f, sum_by-cons f x xs, sum_by-cons f y ys, k)))
