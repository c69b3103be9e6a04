-- Which digits are values.
use Rattle.std.proofs.Common.{◌≡◌, ℕ, ◌+◌, ◌^◌, ℤ, pos, negsuc, FitsSigned, w64, ◌/◌, ◌%◌, ◌<◌, ◌≤◌, true, not, List, [], ◌∷◌, ◌++◌, length, drop, refl, ap, ap₂, ◌∙◌, arith, ◌==◌, nat_lt, length-append}
use Rattle.std.specs.List.{list_all}
use Rattle.std.specs.Char.{is_ascii_digit}
use Rattle.std.specs.Fmt.{decimal}
use Rattle.std.proofs.Math.Seq.{drop-length, drop-append_seam}
use Rattle.std.proofs.lemmas.Fmt.{length-decimal-le}
use Rattle.std.proofs.lemmas.Bool.{and_from, or_left}
use Rattle.std.proofs.lemmas.Bool.Decides.{nat_tests}
use Rattle.value_text.specs.Values.{is_value, is_exponent, is_digits, digits, is_number, unsigned, is_fraction, is_tail}
use Rattle.value_text.specs.Numbers.{number, seconds3, three_digits}
use Rattle.value_text.proofs.DigitLemmas.{both, digit_test, digits-all, digits-before, unsigned-digit, decimal-digits}

pub no_more : (n : ℕ) → nat_lt 0 n ≡ true → is_tail n [] ≡ true
unfolding is_exponent
no_more n some = and_from (nat_lt 0 n) true some refl

value-number : (bs : List ℕ) → length bs ≤ 128 → unsigned bs ≡ bs → is_number bs ≡ true → is_value bs ≡ true
unfolding is_value
value-number bs few e n = and_from _ _ (grind (arith, nat_tests)) (or_left _ _ (ap is_number e ∙ n))

-- digits are a value
pub digits-value : (bs : List ℕ) → is_digits bs ≡ true → length bs ≤ 128 → is_value bs ≡ true
digits-value [] h few = absurd cc
digits-value (b ∷ bs) h few =
    let all = (both (not (length (b ∷ bs) == 0)) _ h).1 in
    let count : digits (b ∷ bs) ≡ length (b ∷ bs) = digits-all (b ∷ bs) all in
    let plain = unsigned-digit b bs (both (is_ascii_digit b) (list_all is_ascii_digit bs) all).0 in
    let none : drop (digits (b ∷ bs)) (b ∷ bs) ≡ [] = ap (λ n. drop n (b ∷ bs)) count ∙ drop-length (b ∷ bs) in
    let some : nat_lt 0 (length (b ∷ bs)) ≡ true = grind (arith, nat_tests) in
    value-number (b ∷ bs) few plain (ap₂ is_tail count none ∙ no_more (length (b ∷ bs)) some)

-- digits, a point and three digits are a value
three_all : (n : ℕ) → list_all is_ascii_digit (three_digits n) ≡ true
three_all n =
    and_from _ _ (digit_test (48 + n / 100 % 10) (omega arith) (omega arith))
    (and_from _ _ (digit_test (48 + n / 10 % 10) (omega arith) (omega arith)) (and_from _ _ (digit_test (48 + n % 10) (omega arith) (omega arith)) refl))

fraction-three : (k n : ℕ) → nat_lt 0 k ≡ true → is_fraction k (three_digits n) ≡ true
unfolding is_exponent
fraction-three k n some =
    let count : digits (three_digits n) ≡ 3 = digits-all (three_digits n) (three_all n) in
    and_from _ _ (or_left _ _ some) (rw count refl)

pub pointed-value : (bs : List ℕ) (n : ℕ) → is_digits bs ≡ true → length bs ≤ 100 → is_value (bs ++ 46 ∷ three_digits n) ≡ true
pointed-value [] n h few = absurd cc
pointed-value (b ∷ bs) n h few =
    let all = (both (not (length (b ∷ bs) == 0)) _ h).1 in
    let count : digits ((b ∷ bs) ++ 46 ∷ three_digits n) ≡ length (b ∷ bs) = digits-before (b ∷ bs) 46 (three_digits n) all refl in
    let plain : unsigned ((b ∷ bs) ++ 46 ∷ three_digits n) ≡ (b ∷ bs) ++ 46 ∷ three_digits n = unsigned-digit b (bs ++ 46 ∷ three_digits n) (both (is_ascii_digit b) (list_all is_ascii_digit bs) all).0 in
    let rest : drop (digits ((b ∷ bs) ++ 46 ∷ three_digits n)) ((b ∷ bs) ++ 46 ∷ three_digits n) ≡ 46 ∷ three_digits n =
    ap (λ n'. drop n' ((b ∷ bs) ++ 46 ∷ three_digits n)) count ∙ drop-append_seam (b ∷ bs) (46 ∷ three_digits n) in
    let some : nat_lt 0 (length (b ∷ bs)) ≡ true = grind (arith, nat_tests) in
    value-number ((b ∷ bs) ++ 46 ∷ three_digits n) (omega (arith, length-append (b ∷ bs) (46 ∷ three_digits n))) plain
    (ap₂ is_tail count rest ∙ fraction-three (length (b ∷ bs)) n some)

-- a count and a duration are values
pub decimal-value : (n : ℕ) → n < 2 ^ 64 → is_value (decimal n) ≡ true
decimal-value n small = digits-value (decimal n) (decimal-digits n small) (omega (arith, length-decimal-le 20 n (omega arith) (omega arith) small))

pub seconds3-value : (n : ℕ) → n < 2 ^ 64 → is_value (seconds3 n) ≡ true
unfolding seconds3
seconds3-value n small = pointed-value (decimal (n / 1000)) n (decimal-digits (n / 1000) (omega arith)) (omega (arith, length-decimal-le 20 (n / 1000) (omega arith) (omega arith) (omega arith)))

pub number-small : (z : ℤ) → FitsSigned w64 z → number z < 2 ^ 64
number-small (pos n) h = omega (arith, h.sfits)
number-small (negsuc n) h = omega arith
