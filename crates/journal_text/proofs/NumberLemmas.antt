-- Digits and the numbers that they spell.
use Rattle.std.proofs.Common.{◌≡◌, ◌≢◌, ℕ, ◌+◌, ◌<◌, ◌≤◌, ◌^◌, true, false, ◌&&◌, List, [], ◌∷◌, ◌++◌, length, take, drop, get_or, Option, Some, None, option_map, refl, sym, ap, ap₂, ◌∙◌, subst, arith, eqb, leb, ltb, ⊎_elim}
use Rattle.std.specs.Char.{is_ascii_digit}
use Rattle.std.specs.Fmt.{decimal}
use Rattle.std.specs.Str.{all_ascii_digits}
use Rattle.std.specs.Str.Parse.{digits_value}
use Rattle.std.proofs.lemmas.Bool.{cases_Bool, cases_eq, cases_lt, and_parts, eq-eqb, eqb-true, le-leb, leb-true, ltb-true}
use Rattle.std.proofs.lemmas.Bool.Decides.{nat_tests}
use Rattle.std.proofs.lemmas.List.{take_at, drop_at, get_or_at, take-append-drop, drop-drop, drop_more, get_or_past}
use Rattle.std.proofs.lemmas.Option.{cond_some, none-some, same_Some}
use Rattle.std.proofs.lemmas.Fmt.{digits_decimal, digits_value-decimal, decimal-digits_value, decimal_nonempty, decimal_digit, first_decimal}
use Rattle.value_text.specs.Values.{digits}
use Rattle.value_text.proofs.NumberLemmas.{own, front-ascii}
use Rattle.journal_text.specs.NumberReadings.{is_plain, is_between, number_in, field_at, field}

-- digits, and something else behind them
pub digits-before : (ds : List ℕ) (stop : ℕ) (rest : List ℕ) → all_ascii_digits ds ≡ true → is_ascii_digit stop ≡ false → digits (ds ++ stop ∷ rest) ≡ length ds
digits-before [] stop rest digits other = rw other refl
digits-before (d ∷ ds) stop rest digits other =
    let parts = and_parts (is_ascii_digit d) (all_ascii_digits ds) digits in
    rw (parts.0, digits-before ds stop rest parts.1 other) (omega arith)

-- a number's digits are plain
plain_decimal : (n : ℕ) → n < 2 ^ 64 → is_plain (decimal n) ≡ true
plain_decimal n small =
    ⊎_elim
    (λ (e : n ≡ 0). rw (e, decimal_digit 0 (omega arith)) refl)
    (λ (e : n ≢ 0). let some = decimal_nonempty n small in let first = first_decimal n (omega arith) small in grind (arith, nat_tests))
    (cases_eq n 0)

pub number_in-decimal : (low high n : ℕ) → low ≤ n → n ≤ high → high < 2 ^ 64 → number_in low high (decimal n) ≡ Some n
unfolding number_in
number_in-decimal low high n above below small =
    let fits : n < 2 ^ 64 = omega arith in
    let value : digits_value 10 (decimal n) ≡ n = digits_value-decimal own n fits in
    let plain = plain_decimal n fits in
    rw (value, plain, le-leb low n above, le-leb n high below) refl

pub drop_past : (xs : List ℕ) (y : ℕ) (ys : List ℕ) (n : ℕ) → length xs ≡ n → drop (n + 1) (xs ++ y ∷ ys) ≡ ys
drop_past xs y ys n e = sym (drop-drop 1 n (xs ++ y ∷ ys)) ∙ ap (drop 1) (drop_at xs (y ∷ ys) n e)

field_at-digits : (low high stop n : ℕ) (ds rest : List ℕ) → number_in low high ds ≡ Some n → field_at low high stop (length ds) (ds ++ stop ∷ rest) ≡ Some (n, rest)
field_at-digits low high stop n ds rest e =
    rw (get_or_at ds stop rest 0 (length ds) refl, eq-eqb stop stop refl, take_at ds (stop ∷ rest) (length ds) refl, e, drop_past ds stop rest (length ds) refl) refl

-- a number's digits and the byte that ends it are read
pub field-decimal : (low high stop n : ℕ) (rest : List ℕ) → low ≤ n → n ≤ high → high < 2 ^ 64 → is_ascii_digit stop ≡ false →
    field low high stop (decimal n ++ stop ∷ rest) ≡ Some (n, rest)
unfolding field
field-decimal low high stop n rest above below small other =
    let fits : n < 2 ^ 64 = omega arith in
    let digits : all_ascii_digits (decimal n) ≡ true = digits_decimal own n fits in
    ap (λ k. field_at low high stop k (decimal n ++ stop ∷ rest)) (digits-before (decimal n) stop rest digits other)
    ∙ field_at-digits low high stop n (decimal n) rest (number_in-decimal low high n above below small)

-- the first digit of plain digits is `0` only where it is the only one
zero_alone : (ds : List ℕ) → is_plain ds ≡ true → get_or ds 0 0 ≡ 48 → length ds ≡ 1
zero_alone ds plain zero_first = grind (arith, nat_tests)

pub option_map_some : {A B P : Type 0} (f : A → B) (o : Option A) (y : B) → option_map f o ≡ Some y → ((x : A) → o ≡ Some x → f x ≡ y → P) → P
option_map_some f None y e then = absurd (none-some y e)
option_map_some f (Some x) y e then = then x refl (same_Some (f x) y e)

-- what is read was spelled
pub number_in-some : (low high : ℕ) (ds : List ℕ) (n : ℕ) → high < 2 ^ 64 → all_ascii_digits ds ≡ true → number_in low high ds ≡ Some n →
    (low ≤ n) × (n ≤ high) × (ds ≡ decimal n)
unfolding number_in
number_in-some low high ds n small digits e =
    let known = cond_some (is_plain ds && is_between low high (digits_value 10 ds)) (digits_value 10 ds) n e in
    let tests = and_parts (is_plain ds) (is_between low high (digits_value 10 ds)) known.0 in
    let bounds = and_parts (leb low (digits_value 10 ds)) (leb (digits_value 10 ds) high) tests.1 in
    let some = and_parts (ltb 0 (length ds)) _ tests.0 in
    let above : low ≤ n = subst (λ m. low ≤ m) known.1 (leb-true low (digits_value 10 ds) bounds.0) in
    let below : n ≤ high = subst (λ m. m ≤ high) known.1 (leb-true (digits_value 10 ds) high bounds.1) in
    (above, below, sym (decimal-digits_value own ds digits (ltb-true 0 (length ds) some.0) (zero_alone ds tests.0) (omega arith)) ∙ ap decimal known.1)

-- the parts of a list at a place
pub split_at : (bs : List ℕ) (k stop : ℕ) → 0 < stop → get_or bs k 0 ≡ stop → bs ≡ take k bs ++ stop ∷ drop (k + 1) bs
split_at bs k stop some e =
    ⊎_elim
    (λ (inside : k < length bs). sym (take-append-drop k bs) ∙ ap (λ t. take k bs ++ t) (drop_more bs k 0 inside ∙ ap (λ b. b ∷ drop (k + 1) bs) e))
    (λ (past : length bs ≤ k). absurd (let none : get_or bs k 0 ≡ 0 = get_or_past bs k 0 past in omega arith))
    (cases_lt k (length bs))

field_at-some : (low high stop n k : ℕ) (bytes rest : List ℕ) → high < 2 ^ 64 → 0 < stop → all_ascii_digits (take k bytes) ≡ true →
    field_at low high stop k bytes ≡ Some (n, rest) → (low ≤ n) × (n ≤ high) × (bytes ≡ decimal n ++ stop ∷ rest)
field_at-some low high stop n k bytes rest small some digits e =
    ⊎_elim
    (λ (t : eqb (get_or bytes k 0) stop ≡ true).
    let read : option_map (λ n. (n, drop (k + 1) bytes)) (number_in low high (take k bytes)) ≡ Some (n, rest) = rw t at e in
    option_map_some (λ m. (m, drop (k + 1) bytes)) (number_in low high (take k bytes)) (n, rest) read
    (λ m got same.
    let kept = number_in-some low high (take k bytes) m small digits got in
    let same_number : m ≡ n = ap (λ p. p.0) same in
    let same_rest : drop (k + 1) bytes ≡ rest = ap (λ p. p.1) same in (
      subst (λ x. low ≤ x) same_number kept.0,
      subst (λ x. x ≤ high) same_number kept.1,
      split_at bytes k stop some (eqb-true (get_or bytes k 0) stop t) ∙ ap₂ (λ (front after : List ℕ). front ++ stop ∷ after) (kept.2 ∙ ap decimal same_number) same_rest,
    )))
    (λ (f : eqb (get_or bytes k 0) stop ≡ false). absurd (none-some (n, rest) (rw f at e)))
    (cases_Bool (eqb (get_or bytes k 0) stop))

pub field-some : (low high stop n : ℕ) (bytes rest : List ℕ) → high < 2 ^ 64 → 0 < stop → field low high stop bytes ≡ Some (n, rest) →
    (low ≤ n) × (n ≤ high) × (bytes ≡ decimal n ++ stop ∷ rest)
unfolding field
field-some low high stop n bytes rest small some e =
    field_at-some low high stop n (digits bytes) bytes rest small some (front-ascii bytes) e
