-- What the fields say, value by value.
use Rattle.std.proofs.Common.{◌≡◌, ℕ, ◌+◌, ◌-◌, ◌*◌, ◌^◌, ◌<◌, ◌≤◌, Bool, true, false, ◌&&◌, List, [], ◌∷◌, length, drop, map, get_or, drop-cons, add-one, refl, sym, ap, ◌∙◌, subst, arith, Option, Some, None, if◌then◌else◌, nat_lt, codes, le_trans}
use Rattle.std.specs.List.{list_all}
use Rattle.std.specs.Char.{is_ascii_digit, digit_value}
use Rattle.std.specs.Str.Parse.{digits_value, digits_value_after}
use Rattle.std.proofs.lemmas.Bool.Decides.{nat_tests}
use Rattle.http_fetch.specs.declared.fields.Framing.TheVariants.{Refused, Length, ToEnd}
use Rattle.http_fetch.specs.declared.fields.Coding.TheVariants.{Absent, Chunked, Other}
use Rattle.http_fetch.specs.Fields.{is_named, kind_by, kind_first, values, same_word, coding, coding_with, coding_after, number, is_numeral, is_same_number, agreed, by_length, length_after, first_length, number_with}

-- ---- codings

other-stays : (vs : List (List ℕ)) → coding_after Other vs ≡ Other
other-stays [] = refl
other-stays (v ∷ vs) = other-stays vs

second : (b : Bool) (w : List ℕ) (vs : List (List ℕ)) → coding_after (coding_with (if b then Chunked else Other) w) vs ≡ Other
second true w vs = other-stays vs
second false w vs = other-stays vs

pub coding-all : (vs : List (List ℕ)) → coding_after Absent vs ≡ coding vs
coding-all [] = refl
coding-all (v ∷ []) = refl
coding-all (v ∷ w ∷ vs) = second (same_word v (codes "chunked")) w vs

-- ---- lengths

refused-stays : (vs : List (List ℕ)) → length_after Refused vs ≡ Refused
refused-stays [] = refl
refused-stays (v ∷ vs) = refused-stays vs

abbrev is_number : ℕ → List ℕ → Bool
is_number n v = is_same_number n (number v)

length-next : (b : Bool) (n : ℕ) (vs : List (List ℕ)) → length_after (Length n) vs ≡ (if list_all (λ (v : List ℕ). is_same_number n (number v)) vs then Length n else Refused) →
    length_after (if b then Length n else Refused) vs ≡ (if (b && list_all (λ (v : List ℕ). is_same_number n (number v)) vs) then Length n else Refused)
length-next true n vs e = e
length-next false n vs e = refused-stays vs

same-lengths : (n : ℕ) (vs : List (List ℕ)) → length_after (Length n) vs ≡ (if list_all (λ (v : List ℕ). is_same_number n (number v)) vs then Length n else Refused)
same-lengths n [] = refl
same-lengths n (v ∷ vs) = length-next (is_same_number n (number v)) n vs (same-lengths n vs)

first-length : (o : Option ℕ) (vs : List (List ℕ)) → length_after (first_length o) vs ≡ agreed o vs
first-length None vs = refused-stays vs
first-length (Some n) vs = same-lengths n vs

pub length-all : (vs : List (List ℕ)) → length_after ToEnd vs ≡ by_length vs
length-all [] = refl
length-all (v ∷ vs) = first-length (number v) vs

-- ---- numbers

pub number-empty : (v : List ℕ) → length v ≡ 0 → None ≡ number v
unfolding number is_numeral
number-empty [] e = refl
number-empty (b ∷ v) e = absurd (omega (arith, e))

not-all : (a : Bool) (n : ℕ) (c : Bool) → None ≡ (if (a && false && c) then Some n else None)
not-all true n c = refl
not-all false n c = refl

pub number-other : (v : List ℕ) → list_all is_ascii_digit v ≡ false → None ≡ number v
unfolding number is_numeral
number-other v e = rw e (not-all (nat_lt 0 (length v)) (digits_value 10 v) (nat_lt (digits_value 10 v) (2 ^ 63)))

not-last : (a b : Bool) (n : ℕ) → None ≡ (if (a && b && false) then Some n else None)
not-last true true n = refl
not-last true false n = refl
not-last false b n = refl

pub number-big : (v : List ℕ) → 2 ^ 63 ≤ digits_value 10 v → None ≡ number v
unfolding number is_numeral
number-big v big =
    let e : nat_lt (digits_value 10 v) (2 ^ 63) ≡ false = grind (arith, nat_tests, big) in
    rw e (not-last (nat_lt 0 (length v)) (list_all is_ascii_digit v) (digits_value 10 v))

pub number-there : (v : List ℕ) (n : ℕ) → 0 < length v → list_all is_ascii_digit v ≡ true → digits_value 10 v ≡ n → n < 2 ^ 63 → Some n ≡ number v
unfolding number is_numeral
number-there v n some digits value few =
    let a : nat_lt 0 (length v) ≡ true = grind (arith, nat_tests, some) in
    let b : nat_lt (digits_value 10 v) (2 ^ 63) ≡ true = (let k : digits_value 10 v < 2 ^ 63 = subst (λ m. m < 2 ^ 63) (sym value) few in grind (arith, nat_tests, k)) in
    rw (a, digits, b) (ap (λ (m : ℕ). Some m) (sym value))

-- the number so far is never more than the whole
pub grows : (ds : List ℕ) (n : ℕ) → n ≤ digits_value_after 10 n ds
grows [] n = omega arith
grows (d ∷ ds) n = (let k : n * 10 + digit_value d ≤ digits_value_after 10 (n * 10 + digit_value d) ds = grows ds (n * 10 + digit_value d) in omega (arith, k))

pub byte-here : (text : List ℕ) (i : ℕ) → i < length text → drop i text ≡ get_or text i 0 ∷ drop (i + 1) text
byte-here text i h = rw add-one (drop-cons text i 0 h)

pub not-digit : (text : List ℕ) (i : ℕ) → i < length text → is_ascii_digit (get_or text i 0) ≡ false → list_all is_ascii_digit (drop i text) ≡ list_all is_ascii_digit text → list_all is_ascii_digit text ≡ false
not-digit text i h e all =
    sym all ∙ ap (list_all is_ascii_digit) (byte-here text i h) ∙ ap (λ (b : Bool). b && list_all is_ascii_digit (drop (i + 1) text)) e

none-by : (m : ℕ) (b : Bool) → nat_lt m (2 ^ 63) ≡ b → None ≡ (if b then Some m else None) → 2 ^ 63 ≤ m
none-by m true e h = absurd cc
none-by m false e h = (let k : 2 ^ 63 ≤ m = grind (arith, nat_tests, e) in k)

none-big : (m : ℕ) → None ≡ (if nat_lt m (2 ^ 63) then Some m else None) → 2 ^ 63 ≤ m
none-big m h = none-by m (nat_lt m (2 ^ 63)) refl h

pub too-big : (text : List ℕ) (i n : ℕ) → i < length text → digit_value (get_or text i 0) ≡ get_or text i 0 - 48 → None ≡ number_with n (get_or text i 0) →
    digits_value_after 10 n (drop i text) ≡ digits_value_after 10 0 text → 2 ^ 63 ≤ digits_value 10 text
too-big text i n h value none all =
    let d : ℕ = get_or text i 0 in
    let e : digits_value_after 10 (n * 10 + digit_value d) (drop (i + 1) text) ≡ digits_value_after 10 0 text = ap (digits_value_after 10 n) (sym (byte-here text i h)) ∙ all in
    let k : n * 10 + digit_value d ≤ digits_value_after 10 (n * 10 + digit_value d) (drop (i + 1) text) = grows (drop (i + 1) text) (n * 10 + digit_value d) in
    let big : 2 ^ 63 ≤ n * 10 + (d - 48) = none-big (n * 10 + (d - 48)) none in
    le_trans big (omega (arith, k, e, value))

pub digit-value : (d : ℕ) → is_ascii_digit d ≡ true → digit_value d ≡ d - 48
digit-value d e = grind (arith, nat_tests, e)

-- ---- the first of a name

module _ {A : Type 0} (name : List ℕ) (f : A → List ℕ × List ℕ) (xs : List A) (i : ℕ) (d : A) (h : i < length xs) where
  there : map f (drop i xs) ≡ f (get_or xs i d) ∷ map f (drop (i + 1) xs)
  there = rw (add-one, drop-cons xs i d) refl

  pub named-here : is_named name (f (get_or xs i d)) ≡ true → kind_first (values name (map f (drop i xs))) ≡ kind_by (f (get_or xs i d)).1
  named-here e = ap (λ fs. kind_first (values name fs)) there ∙ rw e refl

  pub named-other : is_named name (f (get_or xs i d)) ≡ false → values name (map f (drop i xs)) ≡ values name (map f (drop (i + 1) xs))
  named-other e = ap (values name) there ∙ rw e refl
