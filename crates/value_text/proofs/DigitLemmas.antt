-- Digits, as a test, as a count and as a numeral.
use Rattle.std.proofs.Common.{◌≡◌, ℕ, suc, zero, ◌^◌, ◌<◌, ◌≤◌, Bool, true, false, not, ◌&&◌, List, [], ◌∷◌, ◌++◌, length, take, slice_index, append-nil, refl, sym, ap, ◌∙◌, arith, ◌==◌, ⊎_elim}
use Rattle.std.specs.List.{list_all}
use Rattle.std.specs.Char.{is_ascii_digit}
use Rattle.std.specs.Int.{IsInRange}
use Rattle.std.specs.Str.{IsAscii}
use Rattle.std.specs.Str.Parse.{IsNumeral, digits_value}
use Rattle.std.specs.Fmt.{decimal}
use Rattle.std.proofs.lemmas.Fmt.{decimal_is_IsNumeral}
use Rattle.std.proofs.lemmas.Str.Parse.{IsDigitsTest, IsNumeralModel, numerals_by_value}
use Rattle.std.proofs.lemmas.Bool.{and_from, and_parts, cases_Bool}
use Rattle.std.proofs.lemmas.Bool.Decides.{nat_tests}
use Rattle.std.proofs.lemmas.Grind.{common_steps}
use Rattle.value_text.specs.Values.{is_sign, is_digits, digits, unsigned}

pub both : (x y : Bool) → (x && y) ≡ true → (x ≡ true) × (y ≡ true)
both true y e = (refl, e)
both false y e = absurd cc

digit_range : (c : ℕ) → is_ascii_digit c ≡ true → IsInRange 48 57 c
digit_range c e = grind (arith, nat_tests, common_steps)

pub digit_test : (c : ℕ) → 48 ≤ c → c ≤ 57 → is_ascii_digit c ≡ true
digit_test c low high = grind (arith, nat_tests, common_steps)

tells : IsDigitsTest (λ ds. list_all is_ascii_digit ds ≡ true)
tells = record {
  empty = refl;
  parts = λ c cs e. (let k = both (is_ascii_digit c) (list_all is_ascii_digit cs) e in (digit_range c k.0, k.1));
  more = λ c cs r e. and_from _ _ (digit_test c r.0 r.1) e;
}

own : IsNumeralModel (λ ds. list_all is_ascii_digit ds ≡ true) (digits_value 10)
own = numerals_by_value (λ ds. list_all is_ascii_digit ds ≡ true) tells

-- the test says what a numeral is
pub digits-numeral : (ds : List ℕ) → is_digits ds ≡ true → IsNumeral 10 ds
digits-numeral [] e = absurd cc
digits-numeral (d ∷ ds) e = (omega arith, own.to (d ∷ ds) (both (not (length (d ∷ ds) == 0)) _ e).1)

pub numeral-digits : (ds : List ℕ) → IsNumeral 10 ds → is_digits ds ≡ true
numeral-digits [] e = absurd (omega (arith, e.0))
numeral-digits (d ∷ ds) e =
    let some : not (length (d ∷ ds) == 0) ≡ true = grind (arith, nat_tests) in
    and_from (not (length (d ∷ ds) == 0)) (list_all is_ascii_digit (d ∷ ds)) some (own.from (d ∷ ds) e.1)

pub decimal-digits : (n : ℕ) → n < 2 ^ 64 → is_digits (decimal n) ≡ true
decimal-digits n small = numeral-digits (decimal n) (decimal_is_IsNumeral n small).0

-- digits are ASCII
pub digits-ascii : (ds : List ℕ) → list_all is_ascii_digit ds ≡ true → IsAscii ds
digits-ascii [] e i = omega arith
digits-ascii (d ∷ ds) e zero = omega (arith, digit_range d (both (is_ascii_digit d) (list_all is_ascii_digit ds) e).0)
digits-ascii (d ∷ ds) e (suc i) = digits-ascii ds (both (is_ascii_digit d) (list_all is_ascii_digit ds) e).1 i

-- how many digits stand in front
pub digits-front : (ds rest : List ℕ) → list_all is_ascii_digit ds ≡ true → is_ascii_digit (slice_index rest 0) ≡ false → digits (ds ++ rest) ≡ length ds
digits-front [] [] e stops = refl
digits-front [] (b ∷ rest) e stops = rw stops refl
digits-front (d ∷ ds) rest e stops =
    let k = and_parts (is_ascii_digit d) (list_all is_ascii_digit ds) e in
    let more : digits (ds ++ rest) ≡ length ds = digits-front ds rest k.1 stops in
    rw (k.0, more) (omega arith)

pub digits-all : (ds : List ℕ) → list_all is_ascii_digit ds ≡ true → digits ds ≡ length ds
digits-all ds e = ap digits (sym (append-nil ds)) ∙ digits-front ds [] e refl

pub digits-before : (ds : List ℕ) (b : ℕ) (rest : List ℕ) → list_all is_ascii_digit ds ≡ true → is_ascii_digit b ≡ false → digits (ds ++ b ∷ rest) ≡ length ds
digits-before ds b rest e other = digits-front ds (b ∷ rest) e other

-- and these are digits
pub front-digits : (bs : List ℕ) → list_all is_ascii_digit (take (digits bs) bs) ≡ true
front-digits [] = refl
front-digits (b ∷ bs) =
    ⊎_elim
    (λ (e : is_ascii_digit b ≡ true). (let n : digits (b ∷ bs) ≡ suc (digits bs) = rw e (omega arith) in
    ap (λ m. list_all is_ascii_digit (take m (b ∷ bs))) n ∙ and_from (is_ascii_digit b) (list_all is_ascii_digit (take (digits bs) bs)) e (front-digits bs)))
    (λ (e : is_ascii_digit b ≡ false). (let n : digits (b ∷ bs) ≡ 0 = rw e refl in ap (λ m. list_all is_ascii_digit (take m (b ∷ bs))) n))
    (cases_Bool (is_ascii_digit b))

-- digits have no sign
pub digit-no_sign : (b : ℕ) → is_ascii_digit b ≡ true → is_sign b ≡ false
unfolding is_sign
digit-no_sign b e = grind (arith, nat_tests, common_steps)

pub unsigned-digit : (b : ℕ) (bs : List ℕ) → is_ascii_digit b ≡ true → unsigned (b ∷ bs) ≡ b ∷ bs
unsigned-digit b bs e = rw (digit-no_sign b e) refl
