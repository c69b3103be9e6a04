-- A moment that is printed is a timestamp.
use Rattle.std.proofs.Common.{◌≡◌, ℕ, ℤ, pos, negsuc, suc, ◌<◌, ◌^◌, true, false, not, List, [], ◌∷◌, length, refl, ap, ◌∙◌, arith, ◌==◌, Some, nat_lt, FitsSigned, w64}
use Rattle.std.specs.Fmt.{decimal, signed_decimal}
use Rattle.std.specs.List.{list_all}
use Rattle.std.specs.Char.{is_ascii_digit}
use Rattle.std.specs.Str.Parse.{digits_value, signed_digits_value}
use Rattle.std.proofs.lemmas.Bool.Decides.{nat_tests}
use Rattle.std.proofs.lemmas.Fmt.{decimal_is_IsNumeral}
use Rattle.std.proofs.lemmas.Grind.{common_steps}
use Rattle.value_text.specs.Numbers.{is_in_range, millis}
use Rattle.value_text.specs.Values.{is_digits, is_sign, unsigned}
use Rattle.value_text.proofs.DigitLemmas.{both, decimal-digits, digit-no_sign}

first_digit : (ds : List ℕ) → is_digits ds ≡ true → unsigned ds ≡ ds
unfolding is_sign
first_digit [] e = refl
first_digit (d ∷ ds) e = let k = both (is_ascii_digit d) (list_all is_ascii_digit ds) (both (not (length (d ∷ ds) == 0)) _ e).1 in rw (digit-no_sign d k.0) refl

pub in_range : (n : ℕ) → nat_lt n (2 ^ 63) ≡ true → n < 2 ^ 63
in_range n e = grind (arith, nat_tests)

no_signs : (d : ℕ) → is_ascii_digit d ≡ true → ((d == 45) ≡ false) × ((d == 43) ≡ false)
no_signs d e = (grind (arith, nat_tests, common_steps), grind (arith, nat_tests, common_steps))

positive : (ds : List ℕ) → is_digits ds ≡ true → signed_digits_value 10 ds ≡ pos (digits_value 10 ds)
positive [] e = refl
positive (d ∷ ds) e =
    let k = both (is_ascii_digit d) (list_all is_ascii_digit ds) (both (not (length (d ∷ ds) == 0)) _ e).1 in
    let s = no_signs d k.0 in
    rw (s.0, s.1) refl

pub millis_printed : (ms : ℤ) → is_in_range ms ≡ true → millis (signed_decimal ms) ≡ Some ms
unfolding millis is_sign
millis_printed (pos n) r =
    let small = in_range n r in
    let digits = decimal-digits n (omega (arith, small)) in
    let value : signed_digits_value 10 (decimal n) ≡ pos n = positive (decimal n) digits ∙ ap pos (decimal_is_IsNumeral n (omega (arith, small))).1 in
    let good : is_digits (unsigned (decimal n)) ≡ true = ap is_digits (first_digit (decimal n) digits) ∙ digits in
    rw (good, value, r) refl
millis_printed (negsuc n) r =
    let small = in_range n r in
    let digits = decimal-digits (suc n) (omega (arith, small)) in
    let value : digits_value 10 (decimal (suc n)) ≡ suc n = (decimal_is_IsNumeral (suc n) (omega (arith, small))).1 in
    rw (digits, value, r) refl

-- a number of 64 bits is in range
below : (n : ℕ) → n < 2 ^ 63 → nat_lt n (2 ^ 63) ≡ true
below n h = grind (arith, nat_tests)

pub fits_in_range : (z : ℤ) → FitsSigned w64 z → is_in_range z ≡ true
fits_in_range (pos n) e = below n e.sfits
fits_in_range (negsuc n) e = below n e.sfits
