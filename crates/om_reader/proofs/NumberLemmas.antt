-- The parts of a number.
use Rattle.std.proofs.Common.{◌≡◌, ℕ, suc, zero, ◌-◌, ◌<◌, ◌≤◌, ◌^◌, Bool, true, false, not, ◌||◌, ◌==◌, List, [], ◌∷◌, length, take, drop, refl, sym, ap, ◌∙◌, arith, nat_lt, ⊎_elim}
use Rattle.std.specs.List.{list_all}
use Rattle.std.specs.Char.{is_ascii_digit}
use Rattle.std.specs.Str.{all_ascii_digits}
use Rattle.std.proofs.Math.Seq.{take-length}
use Rattle.std.proofs.lemmas.Bool.{and_from, cases_Bool}
use Rattle.std.proofs.lemmas.Bool.Decides.{nat_tests}
use Rattle.std.proofs.lemmas.List.{length-take, length-drop}
use Rattle.value_text.specs.Numbers.{is_in_range}
use Rattle.value_text.specs.Values.{digits, is_digits, is_exponent, is_fraction, is_number, unsigned}
use Rattle.value_text.proofs.DigitLemmas.{both, front-digits}
use Rattle.om_reader.specs.Timestamps.{behind_whole, exponent, has_point, part, signed, whole}

-- digits by either test
same-test : (ds : List ℕ) → list_all is_ascii_digit ds ≡ true → all_ascii_digits ds ≡ true
same-test [] e = refl
same-test (d ∷ ds) e = let k = both (is_ascii_digit d) (list_all is_ascii_digit ds) e in and_from (is_ascii_digit d) (all_ascii_digits ds) k.0 (same-test ds k.1)

some : (ds : List ℕ) → not (length ds == 0) ≡ true → 0 < length ds
some [] e = absurd cc
some (d ∷ ds) e = omega arith

pub are-digits : (ds : List ℕ) → is_digits ds ≡ true → (0 < length ds) × (all_ascii_digits ds ≡ true)
are-digits ds e = let k = both (not (length ds == 0)) (list_all is_ascii_digit ds) e in (some ds k.0, same-test ds k.1)

-- an exponent that isn't empty has digits behind its letter and its sign
pub exponent-digits : (x : List ℕ) → is_exponent x ≡ true → 0 < length x → is_digits (unsigned (drop 1 x)) ≡ true
unfolding is_exponent
exponent-digits [] e h = absurd (omega arith)
exponent-digits (b ∷ x) e h =
    let more : (length (b ∷ x) == 0) ≡ false = grind (arith, nat_tests) in
    (both ((b == 101) || (b == 69)) (is_digits (unsigned x)) (rw more at e)).1

-- the parts of a number are of digits, and its exponent is one
fraction-exponent : (n : ℕ) (rest : List ℕ) → is_fraction n rest ≡ true → is_exponent (drop (digits rest) rest) ≡ true
fraction-exponent n rest e = (both (nat_lt 0 n || nat_lt 0 (digits rest)) (is_exponent (drop (digits rest) rest)) e).1

pub number-exponent : (bs : List ℕ) → is_number bs ≡ true → is_exponent (exponent bs) ≡ true
number-exponent bs e =
    ⊎_elim
    (λ (p : has_point bs ≡ true). rw p (fraction-exponent (digits bs) (drop 1 (behind_whole bs)) (rw p at e)))
    (λ (p : has_point bs ≡ false). rw p (both (nat_lt 0 (digits bs)) (is_exponent (behind_whole bs)) (rw p at e)).1)
    (cases_Bool (has_point bs))

pub whole-digits : (bs : List ℕ) → list_all is_ascii_digit (whole bs) ≡ true
whole-digits bs = front-digits bs

pub part-digits : (bs : List ℕ) → list_all is_ascii_digit (part bs) ≡ true
part-digits bs =
    ⊎_elim
    (λ (p : has_point bs ≡ true). rw p (front-digits (drop 1 (behind_whole bs))))
    (λ (p : has_point bs ≡ false). rw p refl)
    (cases_Bool (has_point bs))

-- and no longer than the number
whole-short : (bs : List ℕ) → length (whole bs) ≤ length bs
whole-short bs = omega (arith, length-take (digits bs) bs)

pub parts-short : (bs : List ℕ) (n : ℕ) → length bs ≤ n → (length (whole bs) ≤ n) × (length (part bs) ≤ n)
parts-short bs n h = (omega (arith, h, whole-short bs), short)
  where
    short : length (part bs) ≤ n
    short =
        ⊎_elim
        (λ (p : has_point bs ≡ true).
        (let inner = drop 1 (behind_whole bs) in
        rw p (omega (arith, h, whole-short inner, length-drop 1 (behind_whole bs), length-drop (digits bs) bs))))
        (λ (p : has_point bs ≡ false). rw p (omega arith))
        (cases_Bool (has_point bs))

-- a count of more than 64 bits is out of range
pub far-out : (minus : Bool) (n : ℕ) → (n < 2 ^ 64 → ⊥) → is_in_range (signed minus n) ≡ false
far-out false n h = grind (arith, nat_tests, h)
far-out true zero h = absurd (h (omega arith))
far-out true (suc n) h = grind (arith, nat_tests, h)

pub behind-digits : (x ds : List ℕ) (b : Bool) → ds ≡ unsigned (take (length x - 1) (drop 1 x)) → b ≡ (length x == 0) → b ≡ false → is_exponent x ≡ true → is_digits ds ≡ true
behind-digits x ds b is test empty e =
    let some : 0 < length x = grind (arith, nat_tests) in
    let rest : take (length x - 1) (drop 1 x) ≡ drop 1 x = ap (λ n. take n (drop 1 x)) (sym (length-drop 1 x)) ∙ take-length (drop 1 x) in
    ap is_digits (is ∙ ap unsigned rest) ∙ exponent-digits x e some
