-- Digits, zeros behind them, and the numbers that they spell.
use Rattle.std.proofs.Common.{◌≡◌, ℕ, suc, zero, ◌+◌, ◌-◌, ◌*◌, ◌^◌, ◌<◌, ◌≤◌, true, List, [], ◌∷◌, ◌++◌, length, take, drop, refl, sym, ap, ap₂, ◌∙◌, arith, subst, get_or, add-one, drop-cons, append_assoc, replicate, min, Option, Some, None, ⊎_elim, ◌⊎◌, inl, inr, nat_le, nat_lt, false}
use Rattle.std.specs.List.{list_all}
use Rattle.std.specs.Char.{is_ascii_digit, digit_value}
use Rattle.std.specs.Option.{SomeIff}
use Rattle.std.specs.Str.Parse.{digits_value, digits_value_after}
use Rattle.std.proofs.Math.ListN.{drop_of_length-le}
use Rattle.std.proofs.Math.Nat.{mul_assoc, pow-le-pow_right}
use Rattle.std.proofs.Math.Seq.{take-append-add}
use Rattle.std.proofs.lemmas.Bool.{and_from, cases_Bool}
use Rattle.std.proofs.lemmas.Bool.Decides.{nat_tests}
use Rattle.std.proofs.lemmas.Grind.{common_steps}
use Rattle.std.proofs.lemmas.List.{take-append-le, take-replicate, length-take-le}
use Rattle.std.proofs.lemmas.Nat.{mul-le, pow-add}
use Rattle.value_text.proofs.DigitLemmas.{both}
use Rattle.om_reader.specs.Timestamps.{digits_before, is_lowered, near_place, point_place, power}

-- digits behind others
pub value-append : (n : ℕ) (a b : List ℕ) → digits_value_after 10 n (a ++ b) ≡ digits_value_after 10 (digits_value_after 10 n a) b
value-append n [] b = refl
value-append n (c ∷ a) b = value-append (n * 10 + digit_value c) a b

-- zeros behind a number
ten-more : (n k : ℕ) → (n * 10) * 10 ^ k ≡ n * 10 ^ suc k
ten-more n k =
    let next : 1 + k ≡ suc k = omega arith in
    mul_assoc n 10 (10 ^ k) ∙ ap (λ p. n * p) (sym (pow-add 10 1 k) ∙ ap (λ e. 10 ^ e) next)

pub value-zeros : (n k : ℕ) → digits_value_after 10 n (replicate k 48) ≡ n * 10 ^ k
value-zeros n zero = omega arith
value-zeros n (suc k) =
    let none : n * 10 + digit_value 48 ≡ n * 10 = omega arith in
    ap (λ m. digits_value_after 10 m (replicate k 48)) none ∙ value-zeros (n * 10) k ∙ ten-more n k

-- a number grows by its digits
pub value-grows : (n : ℕ) (ds : List ℕ) → n ≤ digits_value_after 10 n ds
value-grows n [] = omega arith
value-grows n (c ∷ ds) = omega (arith, value-grows (n * 10 + digit_value c) ds)

-- a digit
pub digit-range : (d : ℕ) → is_ascii_digit d ≡ true → (48 ≤ d) × (d ≤ 57)
digit-range d e = (grind (arith, nat_tests, common_steps), grind (arith, nat_tests, common_steps))

pub digit-at : (ds : List ℕ) (i : ℕ) → list_all is_ascii_digit ds ≡ true → i < length ds → (48 ≤ get_or ds i 0) × (get_or ds i 0 ≤ 57)
digit-at [] i e h = absurd (omega arith)
digit-at (d ∷ ds) zero e h = digit-range d (both (is_ascii_digit d) (list_all is_ascii_digit ds) e).0
digit-at (d ∷ ds) (suc i) e h = digit-at ds i (both (is_ascii_digit d) (list_all is_ascii_digit ds) e).1 (omega arith)

pub digit-is : (d : ℕ) → 48 ≤ d → d ≤ 57 → digit_value d ≡ d - 48
digit-is d low high = grind (arith, nat_tests, common_steps)

-- one digit more
pub value-step : (v i d : ℕ) (ds : List ℕ) → i < length ds → d ≡ get_or ds i 0 → 48 ≤ d → d ≤ 57 →
    digits_value_after 10 v (drop i ds) ≡ digits_value_after 10 (v * 10 + (d - 48)) (drop (i + 1) ds)
value-step v i d ds h at low high =
    let there : drop i ds ≡ d ∷ drop (i + 1) ds = rw (add-one, drop-cons ds i 0) (ap (λ (y : ℕ). y ∷ drop (suc i) ds) (sym at)) in
    ap (digits_value_after 10 v) there ∙ ap (λ x. digits_value_after 10 (v * 10 + x) (drop (i + 1) ds)) (digit-is d low high)

pub value-end : (v i : ℕ) (ds : List ℕ) → length ds ≤ i → digits_value_after 10 v (drop i ds) ≡ v
value-end v i ds h = ap (digits_value_after 10 v) (drop_of_length-le ds h)

-- a power of ten that is not reached
pub tens : (i k : ℕ) → i ≤ k → 10 ^ i ≤ 10 ^ k
tens i k h = pow-le-pow_right (let some : 0 < 10 = omega arith in some) h

pub ten-next : (n i : ℕ) → (n * 10 ^ i) * 10 ≡ n * 10 ^ (i + 1)
ten-next n i = mul_assoc n (10 ^ i) 10 ∙ ap (λ p. n * p) (sym (pow-add 10 i 1))

pub ten-below : (n i k : ℕ) → i < k → (n * 10 ^ i) * 10 ≤ n * 10 ^ k
ten-below n i k h =
    let more : 10 ^ (i + 1) ≤ 10 ^ k = tens (i + 1) k (omega arith) in
    let whole = ten-next n i in
    let all : n * 10 ^ (i + 1) ≤ n * 10 ^ k = mul-le n (10 ^ (i + 1)) n (10 ^ k) (omega arith) more in
    omega (arith, whole, all)

-- the digits before a place, in two parts with zeros behind them
module _ (w p : List ℕ) where
  within-first : (place : ℕ) → place ≤ length w → digits_before place (w ++ p) ≡ take place w
  unfolding digits_before
  within-first place h =
      ap (take place) (append_assoc w p (replicate place 48)) ∙ take-append-le place w (p ++ replicate place 48) h

  behind-first : (place m : ℕ) → place ≡ length w + m → digits_before place (w ++ p) ≡ w ++ take m (p ++ replicate place 48)
  unfolding digits_before
  behind-first place m e =
      ap (take place) (append_assoc w p (replicate place 48)) ∙ ap (λ n. take n (w ++ (p ++ replicate place 48))) e ∙ take-append-add w (p ++ replicate place 48) m

  within-second : (place m : ℕ) → place ≡ length w + m → m ≤ length p → digits_before place (w ++ p) ≡ w ++ take m p
  within-second place m e h = behind-first place m e ∙ ap (λ l. w ++ l) (take-append-le m p (replicate place 48) h)

  pub behind-both : (place k : ℕ) → place ≡ length w + length p + k → digits_before place (w ++ p) ≡ w ++ (p ++ replicate k 48)
  behind-both place k e =
      let m : place ≡ length w + (length p + k) = omega (arith, e) in
      behind-first place (length p + k) m ∙ ap (λ l. w ++ l) (take-append-add p (replicate place 48) k ∙ ap (λ l. p ++ l) (take-replicate k place 48 (omega (arith, e))))

-- what is counted: the digits in front of the first part, then those of the second, then zeros
pub counted : (place : ℕ) (w p : List ℕ) → (x y : List ℕ) → x ≡ take place w → y ≡ take (place - length x) p →
    digits_value 10 (digits_before place (w ++ p)) ≡ digits_value_after 10 (digits_value_after 10 0 x) y * 10 ^ (place - length x - length y)
counted place w p x y x_is y_is = ⊎_elim first second (cases place (length w))
  where
    cases : (a b : ℕ) → (a ≤ b) ⊎ (b ≤ a)
    cases a b =
        ⊎_elim (λ (e : nat_le a b ≡ true). inl (grind (arith, nat_tests))) (λ (e : nat_le a b ≡ false). inr (grind (arith, nat_tests))) (cases_Bool (nat_le a b))

    zeros : (v k : ℕ) → k ≡ 0 → v ≡ v * 10 ^ k
    zeros v k e = rw e (omega arith)

    first : place ≤ length w → digits_value 10 (digits_before place (w ++ p)) ≡ digits_value_after 10 (digits_value_after 10 0 x) y * 10 ^ (place - length x - length y)
    first h =
        let long : length x ≡ place = ap length x_is ∙ length-take-le place w h in
        let none : y ≡ [] = y_is ∙ ap (λ n. take n p) (let d : place - length x ≡ 0 = omega (arith, long) in d) in
        let value : digits_value 10 (digits_before place (w ++ p)) ≡ digits_value_after 10 (digits_value_after 10 0 x) y =
        ap (digits_value 10) (within-first w p place h ∙ sym x_is) ∙ sym (ap (digits_value_after 10 (digits_value_after 10 0 x)) none) in
        value ∙ zeros (digits_value_after 10 (digits_value_after 10 0 x) y) (place - length x - length y) (omega (arith, long))

    second : length w ≤ place → digits_value 10 (digits_before place (w ++ p)) ≡ digits_value_after 10 (digits_value_after 10 0 x) y * 10 ^ (place - length x - length y)
    second h = ⊎_elim inside outside (cases (place - length w) (length p))
      where
        all : x ≡ w
        all = x_is ∙ whole place w h
          where
            whole : (n : ℕ) (l : List ℕ) → length l ≤ n → take n l ≡ l
            whole zero [] e = refl
            whole (suc n) [] e = refl
            whole zero (c ∷ l) e = absurd (omega arith)
            whole (suc n) (c ∷ l) e = ap (λ t. c ∷ t) (whole n l (omega arith))

        long : length x ≡ length w
        long = ap length all

        inside : place - length w ≤ length p → digits_value 10 (digits_before place (w ++ p)) ≡ digits_value_after 10 (digits_value_after 10 0 x) y * 10 ^ (place - length x - length y)
        inside i =
            let m : place - length x ≡ place - length w = omega (arith, long) in
            let is : y ≡ take (place - length w) p = y_is ∙ ap (λ n. take n p) m in
            let some : length y ≡ place - length w = ap length is ∙ length-take-le (place - length w) p i in
            let sum : place ≡ length w + (place - length w) = omega (arith, h) in
            let value : digits_value 10 (digits_before place (w ++ p)) ≡ digits_value_after 10 (digits_value_after 10 0 x) y =
            ap (digits_value 10) (within-second w p place (place - length w) sum i ∙ ap₂ (λ a b. a ++ b) (sym all) (sym is)) ∙ value-append 0 x y in
            value ∙ zeros (digits_value_after 10 (digits_value_after 10 0 x) y) (place - length x - length y) (omega (arith, long, some))

        outside : length p ≤ place - length w → digits_value 10 (digits_before place (w ++ p)) ≡ digits_value_after 10 (digits_value_after 10 0 x) y * 10 ^ (place - length x - length y)
        outside o =
            let is : y ≡ p = y_is ∙ whole (place - length x) p (omega (arith, long, o)) in
            let some : length y ≡ length p = ap length is in
            let sum : place ≡ length w + length p + (place - length x - length y) = omega (arith, h, o, long, some) in
            ap (digits_value 10) (behind-both w p place (place - length x - length y) sum ∙ ap₂ (λ a b. a ++ (b ++ replicate (place - length x - length y) 48)) (sym all) (sym is))
            ∙ value-append 0 x (y ++ replicate (place - length x - length y) 48)
            ∙ value-append (digits_value_after 10 0 x) y (replicate (place - length x - length y) 48)
            ∙ value-zeros (digits_value_after 10 (digits_value_after 10 0 x) y) (place - length x - length y)
          where
            whole : (n : ℕ) (l : List ℕ) → length l ≤ n → take n l ≡ l
            whole zero [] e = refl
            whole (suc n) [] e = refl
            whole zero (c ∷ l) e = absurd (omega arith)
            whole (suc n) (c ∷ l) e = ap (λ t. c ∷ t) (whole n l (omega arith))

pub digits-front : (n : ℕ) (ds : List ℕ) → list_all is_ascii_digit ds ≡ true → list_all is_ascii_digit (take n ds) ≡ true
digits-front zero ds e = refl
digits-front (suc n) [] e = refl
digits-front (suc n) (d ∷ ds) e =
    let k = both (is_ascii_digit d) (list_all is_ascii_digit ds) e in
    and_from (is_ascii_digit d) (list_all is_ascii_digit (take n ds)) k.0 (digits-front n ds k.1)

-- what is counted is no less than the digits of a part
scaled-grows : (v k : ℕ) → v ≤ v * 10 ^ k
scaled-grows v k = let one : v * 1 ≤ v * 10 ^ k = mul-le v 1 v (10 ^ k) (omega arith) (tens 0 k (omega arith)) in omega (arith, one)

pub both-less : (place : ℕ) (w p x y : List ℕ) → x ≡ take place w → y ≡ take (place - length x) p →
    digits_value_after 10 (digits_value_after 10 0 x) y ≤ digits_value 10 (digits_before place (w ++ p))
both-less place w p x y x_is y_is =
    let v = digits_value_after 10 (digits_value_after 10 0 x) y in
    omega (arith, counted place w p x y x_is y_is, scaled-grows v (place - length x - length y))

pub first-less : (place : ℕ) (w p x : List ℕ) → x ≡ take place w → digits_value_after 10 0 x ≤ digits_value 10 (digits_before place (w ++ p))
first-less place w p x x_is =
    let y = take (place - length x) p in
    omega (arith, value-grows (digits_value_after 10 0 x) y, both-less place w p x y x_is refl)

-- the same number is counted at a place that is near, unless neither has 64 bits
module _ (w p : List ℕ) where
  far-value : (place k : ℕ) → place ≡ length w + length p + k → digits_value 10 (digits_before place (w ++ p)) ≡ digits_value_after 10 0 (w ++ p) * 10 ^ k
  far-value place k e =
      ap (digits_value 10) (behind-both w p place k e ∙ sym (append_assoc w p (replicate k 48))) ∙ value-append 0 (w ++ p) (replicate k 48)
      ∙ value-zeros (digits_value_after 10 0 (w ++ p)) k

  far-big : (place : ℕ) → length w + length p + 20 ≤ place → 0 < digits_value_after 10 0 (w ++ p) → 2 ^ 64 ≤ digits_value 10 (digits_before place (w ++ p))
  far-big place h some =
      let v = digits_value_after 10 0 (w ++ p) in
      let k = place - (length w + length p) in
      let far = far-value place k (omega (arith, h)) in
      let most : 1 * 10 ^ 20 ≤ v * 10 ^ k = mul-le 1 (10 ^ 20) v (10 ^ k) some (tens 20 k (omega (arith, h))) in
      omega (arith, far, most)

  far-zero : (place : ℕ) → length w + length p ≤ place → digits_value_after 10 0 (w ++ p) ≡ 0 → digits_value 10 (digits_before place (w ++ p)) ≡ 0
  far-zero place h none =
      let k = place - (length w + length p) in far-value place k (omega (arith, h)) ∙ ap (λ v. v * 10 ^ k) none ∙ (let z : 0 * 10 ^ k ≡ 0 = omega arith in z)

  far-same : (r : Option ℕ) (j k : ℕ) → length w + length p + 20 ≤ j → length w + length p + 20 ≤ k →
      SomeIff r (digits_value 10 (digits_before j (w ++ p)) < 2 ^ 64) (digits_value 10 (digits_before j (w ++ p))) →
      SomeIff r (digits_value 10 (digits_before k (w ++ p)) < 2 ^ 64) (digits_value 10 (digits_before k (w ++ p)))
  far-same r j k hj hk s =
      ⊎_elim
      (λ (some : nat_lt 0 (digits_value_after 10 0 (w ++ p)) ≡ true).
      (let more : 0 < digits_value_after 10 0 (w ++ p) = grind (arith, nat_tests) in both-big r _ _ (far-big j hj more) (far-big k hk more) s))
      (λ (none : nat_lt 0 (digits_value_after 10 0 (w ++ p)) ≡ false).
      (let zero_is : digits_value_after 10 0 (w ++ p) ≡ 0 = grind (arith, nat_tests) in
      subst (λ (t : ℕ). SomeIff r (t < 2 ^ 64) t) (far-zero j (omega (arith, hj)) zero_is ∙ sym (far-zero k (omega (arith, hk)) zero_is)) s))
      (cases_Bool (nat_lt 0 (digits_value_after 10 0 (w ++ p))))
    where
      both-big : (r : Option ℕ) (a b : ℕ) → 2 ^ 64 ≤ a → 2 ^ 64 ≤ b → SomeIff r (a < 2 ^ 64) a → SomeIff r (b < 2 ^ 64) b
      both-big None a b ha hb s = λ less. omega (arith, less, hb)
      both-big (Some x) a b ha hb s = absurd (omega (arith, s.0, ha))

  pub near-same : (x : List ℕ) (r : Option ℕ) → length w ≤ 128 → length p ≤ 128 →
      SomeIff r (digits_value 10 (digits_before (near_place (length w) x) (w ++ p)) < 2 ^ 64) (digits_value 10 (digits_before (near_place (length w) x) (w ++ p))) →
      SomeIff r (digits_value 10 (digits_before (point_place (length w) x) (w ++ p)) < 2 ^ 64) (digits_value 10 (digits_before (point_place (length w) x) (w ++ p)))
  unfolding near_place point_place
  near-same x r hw hp s =
      ⊎_elim
      (λ (low : is_lowered x ≡ true).
      (let same : length w + 3 - min (power x) 1000 ≡ length w + 3 - power x = omega (arith, hw) in
      rw low (subst (λ (n : ℕ). SomeIff r (digits_value 10 (digits_before n (w ++ p)) < 2 ^ 64) (digits_value 10 (digits_before n (w ++ p)))) same (rw low at s))))
      (λ (high : is_lowered x ≡ false).
      (let s2 = rw high at s in
      rw high (⊎_elim
      (λ (few : nat_le (power x) 1000 ≡ true).
      (let h : power x ≤ 1000 = grind (arith, nat_tests) in
      let same : length w + 3 + min (power x) 1000 ≡ length w + 3 + power x = omega (arith, h) in
      subst (λ (n : ℕ). SomeIff r (digits_value 10 (digits_before n (w ++ p)) < 2 ^ 64) (digits_value 10 (digits_before n (w ++ p)))) same s2))
      (λ (many : nat_le (power x) 1000 ≡ false).
      (let h : 1000 < power x = grind (arith, nat_tests) in
      far-same r (length w + 3 + min (power x) 1000) (length w + 3 + power x) (omega (arith, h, hp)) (omega (arith, h, hp)) s2))
      (cases_Bool (nat_le (power x) 1000)))))
      (cases_Bool (is_lowered x))
