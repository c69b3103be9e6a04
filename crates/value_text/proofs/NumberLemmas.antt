-- What `parse` reads are the timestamps.
use Rattle.std.proofs.Common.{◌≡◌, ℕ, ℤ, pos, negsuc, suc, zero, ◌<◌, ◌^◌, eqb, true, false, not, ◌&&◌, List, [], ◌∷◌, length, take, ◌+◌, refl, sym, ap, ◌∙◌, arith, Some, None, Result, Ok, Err, MatchResult, FitsSigned, w64, ⊎_elim, ◌==◌, nat_lt}
use Rattle.std.specs.List.{list_all}
use Rattle.std.specs.Char.{is_ascii_digit}
use Rattle.std.specs.Str.{all_ascii_digits, IsUtf8, IsAscii}
use Rattle.std.specs.Option.{SomeIff}
use Rattle.std.specs.Result.{result_ok}
use Rattle.std.specs.Str.Parse.{ParsesSigned, ParsesUnsigned, digits_value, signed_digits_value, without_leading_sign}
use Rattle.std.proofs.lemmas.Fmt.{IsAscii-from_digits}
use Rattle.std.proofs.lemmas.Str.Parse.{IsNumeralModel, numerals_by_value, tells_all_ascii_digits, parse_digits}
use Rattle.std.proofs.lemmas.Str.{IsUtf8-from_ascii, IsUtf8-nil}
use Rattle.std.proofs.Math.Bool.{or-true}
use Rattle.std.proofs.lemmas.Bool.{cases_Bool, and_from, and_left, false_from_ne_true}
use Rattle.std.proofs.lemmas.Bool.Decides.{nat_tests}
use Rattle.std.proofs.lemmas.Grind.{common_steps}
use Rattle.value_text.specs.Values.{digits, is_digits, unsigned, is_sign}
use Rattle.value_text.specs.Numbers.{millis, is_in_range}
use Rattle.value_text.proofs.DigitLemmas.{both, digits-numeral, numeral-digits, digits-ascii}

-- one word for what stands behind a sign
unsigned-same : (bs : List ℕ) → unsigned bs ≡ without_leading_sign bs
unfolding is_sign
unsigned-same [] = refl
unsigned-same (b ∷ bs) =
    ⊎_elim (λ (e : eqb b 45 ≡ true). rw (e, or-true (eqb b 43)) refl)
    (λ (e : eqb b 45 ≡ false). ⊎_elim (λ (p : eqb b 43 ≡ true). rw (e, p) refl) (λ (p : eqb b 43 ≡ false). rw (e, p) refl) (cases_Bool (eqb b 43)))
    (cases_Bool (eqb b 45))

in_range-fits : (z : ℤ) → is_in_range z ≡ true → FitsSigned w64 z
in_range-fits (pos n) e = record { sfits = grind (arith, nat_tests) }
in_range-fits (negsuc n) e = record { sfits = grind (arith, nat_tests) }

below : (n : ℕ) → n < 2 ^ 63 → nat_lt n (2 ^ 63) ≡ true
below n h = grind (arith, nat_tests)

fits-in_range : (z : ℤ) → FitsSigned w64 z → is_in_range z ≡ true
fits-in_range (pos n) e = below n e.sfits
fits-in_range (negsuc n) e = below n e.sfits

-- bytes that aren't a sign or none and digits are no timestamp
pub millis-other : (bs : List ℕ) → is_digits (unsigned bs) ≡ false → millis bs ≡ None
unfolding millis
millis-other bs e = rw (and_left (is_digits (unsigned bs)) (is_in_range (signed_digits_value 10 bs)) e) refl

-- what a parse gives
pub millis-parsed : {E : Type 0} (bs : List ℕ) (r : Result ℤ E) → ParsesSigned w64 10 bs r → MatchResult r (λ z. millis bs ≡ Some z) (λ _. millis bs ≡ None)
unfolding millis
millis-parsed bs (Ok z) h =
    let test : (is_digits (unsigned bs) && is_in_range (signed_digits_value 10 bs)) ≡ true =
    and_from _ _ (ap is_digits (unsigned-same bs) ∙ numeral-digits (without_leading_sign bs) h.0.0) (fits-in_range (signed_digits_value 10 bs) h.0.1) in
    rw test (ap Some (sym h.1))
millis-parsed bs (Err e) h =
    let test : (is_digits (unsigned bs) && is_in_range (signed_digits_value 10 bs)) ≡ false =
    false_from_ne_true _ (λ t. (let k = both (is_digits (unsigned bs)) (is_in_range (signed_digits_value 10 bs)) t in
    h (digits-numeral (without_leading_sign bs) (ap is_digits (sym (unsigned-same bs)) ∙ k.0), in_range-fits (signed_digits_value 10 bs) k.1))) in
    rw test refl

-- digits behind a sign or none are a text
sign-ascii : (b : ℕ) → is_sign b ≡ true → b < 128
unfolding is_sign
sign-ascii b e = grind (arith, nat_tests, common_steps)

signed-ascii : (b : ℕ) (bs : List ℕ) → is_sign b ≡ true → list_all is_ascii_digit bs ≡ true → IsAscii (b ∷ bs)
signed-ascii b bs s e zero = sign-ascii b s
signed-ascii b bs s e (suc i) = digits-ascii bs e i

pub signed_digits-utf8 : (bs : List ℕ) → is_digits (unsigned bs) ≡ true → IsUtf8 bs
signed_digits-utf8 [] e = IsUtf8-nil
signed_digits-utf8 (b ∷ bs) e =
    ⊎_elim
    (λ (s : is_sign b ≡ true). (let d : is_digits bs ≡ true = rw s at e in IsUtf8-from_ascii (b ∷ bs) (signed-ascii b bs s (both (not (length bs == 0)) _ d).1)))
    (λ (s : is_sign b ≡ false). (let d : is_digits (b ∷ bs) ≡ true = rw s at e in IsUtf8-from_ascii (b ∷ bs) (digits-ascii (b ∷ bs) (both (not (length (b ∷ bs) == 0)) _ d).1)))
    (cases_Bool (is_sign b))

-- the number that digits spell
pub own : IsNumeralModel (λ ds. all_ascii_digits ds ≡ true) (digits_value 10)
own = numerals_by_value _ tells_all_ascii_digits

-- what `parse` gives of digits
pub number-parsed : {E : Type 0} (ds : List ℕ) (r : Result ℕ E) → 0 < length ds → all_ascii_digits ds ≡ true → ParsesUnsigned 64 10 ds r →
    SomeIff (result_ok r) (digits_value 10 ds < 2 ^ 64) (digits_value 10 ds)
number-parsed {E} ds (Ok x) some digits h = let g = parse_digits own {E = E} 64 ds (Ok x) h digits in (g.0.1, g.1)
number-parsed {E} ds (Err e) some digits h = let g = parse_digits own {E = E} 64 ds (Err e) h digits in λ less. g (some, less)

pub digits-utf8 : (ds : List ℕ) → all_ascii_digits ds ≡ true → IsUtf8 ds
digits-utf8 ds digits = IsUtf8-from_ascii ds (IsAscii-from_digits ds (own.to ds digits))

-- the digits in front are digits
take-one : (b : ℕ) (bs : List ℕ) (k : ℕ) → take (1 + k) (b ∷ bs) ≡ b ∷ take k bs
take-one b bs k = let e : 1 + k ≡ suc k = omega arith in rw e refl

pub front-ascii : (bs : List ℕ) → all_ascii_digits (take (digits bs) bs) ≡ true
front-ascii [] = refl
front-ascii (b ∷ bs) =
    ⊎_elim
    (λ (e : is_ascii_digit b ≡ true). rw (e, take-one) (and_from (is_ascii_digit b) (all_ascii_digits (take (digits bs) bs)) e (front-ascii bs)))
    (λ (e : is_ascii_digit b ≡ false). rw e refl)
    (cases_Bool (is_ascii_digit b))
