-- The test of a value and the grammar of values agree.
use Rattle.std.proofs.Common.{◌≡◌, ◌≢◌, ◌⊎◌, ℕ, ◌<◌, ◌≤◌, true, false, not, ◌&&◌, ◌||◌, List, [], ◌∷◌, ◌++◌, length, take, drop, refl, sym, ap, ap₂, ◌∙◌, subst, arith, ◌==◌, nat_lt, nat_le, slice_index, codes, inl, inr, ⊎_elim, append_assoc, append-nil, length-take}
use Rattle.std.specs.Char.{is_ascii_digit, to_ascii_lowercase}
use Rattle.std.specs.List.{list_all}
use Rattle.std.specs.Str.{bytes_eq, str_to_ascii_lowercase}
use Rattle.std.proofs.Math.Seq.{drop-append_seam}
use Rattle.std.proofs.lemmas.Bool.{and_from, and_parts, cases_Bool, eqb-true, eq-eqb, false_from_ne_true, le-leb, leb-true, or_cases, or_left, or_right}
use Rattle.std.proofs.lemmas.Bool.Decides.{nat_tests}
use Rattle.std.proofs.lemmas.List.{take-append-drop}
use Rattle.std.proofs.lemmas.List.Sums.{prefix_len-le-length}
use Rattle.std.proofs.lemmas.Slice.Eq.{bytes_eq-Decides}
use Rattle.value_text.specs.Grammar.{AreDigits, IsSign, IsExponent, IsNumber, IsWord, MayHaveSign, IsValue, ReadsTheValues}
use Rattle.value_text.specs.Values.{digits, is_digits, is_exponent, is_fraction, is_infinity, is_number, is_sign, is_tail, is_value, unsigned}
use Rattle.value_text.proofs.DigitLemmas.{digit-no_sign, digits-front, front-digits}
use Rattle.value_text.proofs.ValueLemmas.{no_more}

-- signs
sign-one : (b : ℕ) → is_sign b ≡ true → IsSign (b ∷ [])
unfolding is_sign
sign-one b e =
    ⊎_elim
    (λ (p : (b == 43) ≡ true). inr (inl (ap (λ x. x ∷ []) (eqb-true b 43 p))))
    (λ (p : (b == 45) ≡ true). inr (inr (ap (λ x. x ∷ []) (eqb-true b 45 p))))
    (or_cases (b == 43) (b == 45) e)

unsigned-signed : (b : ℕ) (bs : List ℕ) → is_sign b ≡ true → unsigned (b ∷ bs) ≡ bs
unsigned-signed b bs e = rw e refl

unsigned-none : (bs : List ℕ) → is_sign (slice_index bs 0) ≡ false → unsigned bs ≡ bs
unsigned-none bs e = rw e refl

sign-apart : (bs : List ℕ) → (sign : List ℕ) × IsSign sign × (bs ≡ sign ++ unsigned bs)
unfolding is_sign
sign-apart [] = ([], inl refl, refl)
sign-apart (b ∷ bs) =
    ⊎_elim
    (λ (e : is_sign b ≡ true). (b ∷ [], sign-one b e, ap (λ r. b ∷ r) (sym (unsigned-signed b bs e))))
    (λ (e : is_sign b ≡ false). ([], inl refl, sym (unsigned-none (b ∷ bs) e)))
    (cases_Bool (is_sign b))

unsigned-behind : (sign rest : List ℕ) → IsSign sign → is_sign (slice_index rest 0) ≡ false → unsigned (sign ++ rest) ≡ rest
unfolding is_sign
unsigned-behind sign rest s e =
    ⊎_elim
    (λ (none : sign ≡ []). ap (λ l. unsigned (l ++ rest)) none ∙ unsigned-none rest e)
    (λ (some : (sign ≡ codes "+") ⊎ (sign ≡ codes "-")).
    ⊎_elim (λ (plus : sign ≡ codes "+"). ap (λ l. unsigned (l ++ rest)) plus) (λ (minus : sign ≡ codes "-"). ap (λ l. unsigned (l ++ rest)) minus) some)
    s

-- digits
some-digits : (ds : List ℕ) → is_digits ds ≡ true → AreDigits ds × (ds ≢ [])
some-digits [] e = absurd cc
some-digits (d ∷ ds) e = ((and_parts (not (length (d ∷ ds) == 0)) (list_all is_ascii_digit (d ∷ ds)) e).1, λ n. cc)

digits-some : (ds : List ℕ) → AreDigits ds → ds ≢ [] → is_digits ds ≡ true
digits-some [] a some = absurd (some refl)
digits-some (d ∷ ds) a some =
    let full : not (length (d ∷ ds) == 0) ≡ true = grind (arith, nat_tests) in
    and_from (not (length (d ∷ ds) == 0)) (list_all is_ascii_digit (d ∷ ds)) full a

digits-no_sign : (ds t : List ℕ) → AreDigits ds → ds ≢ [] → is_sign (slice_index (ds ++ t) 0) ≡ false
digits-no_sign [] t a some = absurd (some refl)
digits-no_sign (d ∷ ds) t a some = digit-no_sign d (and_parts (is_ascii_digit d) (list_all is_ascii_digit ds) a).0

-- exponents
exponent-sound : (bs : List ℕ) → is_exponent bs ≡ true → IsExponent bs
unfolding is_exponent
exponent-sound [] e = inl refl
exponent-sound (b ∷ bs) e =
    let some : (length (b ∷ bs) == 0) ≡ false = grind (arith, nat_tests) in
    let k = and_parts ((b == 101) || (b == 69)) (is_digits (unsigned bs)) (rw some at e) in
    let letter : (b ≡ 101) ⊎ (b ≡ 69) =
    ⊎_elim (λ (p : (b == 101) ≡ true). inl (eqb-true b 101 p)) (λ (p : (b == 69) ≡ true). inr (eqb-true b 69 p)) (or_cases (b == 101) (b == 69) k.0) in
    let s = sign-apart bs in
    let d = some-digits (unsigned bs) k.1 in
    inr (b, s.0, unsigned bs, letter, s.1, d.0, d.1, ap (λ r. b ∷ r) s.2)

-- an exponent that isn't nothing
abbrev HasExponent : List ℕ → Type 0
HasExponent bs = (e : ℕ) × (sign : List ℕ) × (digits : List ℕ) × ((e ≡ 101) ⊎ (e ≡ 69)) × IsSign sign × AreDigits digits × (digits ≢ []) × (bs ≡ e ∷ (sign ++ digits))

letter-test : (e : ℕ) → (e ≡ 101) ⊎ (e ≡ 69) → ((e == 101) || (e == 69)) ≡ true
letter-test e l =
    ⊎_elim (λ (p : e ≡ 101). or_left (e == 101) (e == 69) (eq-eqb e 101 p)) (λ (p : e ≡ 69). or_right (e == 101) (e == 69) (eq-eqb e 69 p)) l

letter-other : (e : ℕ) → (e ≡ 101) ⊎ (e ≡ 69) → (is_ascii_digit e ≡ false) × ((e == 46) ≡ false)
letter-other e l =
    ⊎_elim (λ (p : e ≡ 101). (ap is_ascii_digit p, ap (λ x. x == 46) p)) (λ (p : e ≡ 69). (ap is_ascii_digit p, ap (λ x. x == 46) p)) l

has-found : (bs : List ℕ) → HasExponent bs → is_exponent bs ≡ true
unfolding is_exponent
has-found bs (e, sign, digits, letter, s, are, some, is) =
    let number : is_digits (unsigned (sign ++ digits)) ≡ true =
    ap is_digits (unsigned-behind sign digits s (ap (λ (l : List ℕ). is_sign (slice_index l 0)) (sym (append-nil digits)) ∙ digits-no_sign digits [] are some)) ∙ digits-some digits are some in
    ap is_exponent is ∙ or_right (length (e ∷ (sign ++ digits)) == 0) _ (and_from ((e == 101) || (e == 69)) (is_digits (unsigned (sign ++ digits))) (letter-test e letter) number)

exponent-found : (bs : List ℕ) → IsExponent bs → is_exponent bs ≡ true
unfolding is_exponent
exponent-found bs x = ⊎_elim (λ (none : bs ≡ []). ap is_exponent none) (λ (some : HasExponent bs). has-found bs some) x

exponent-stops : (bs : List ℕ) → IsExponent bs → is_ascii_digit (slice_index bs 0) ≡ false
exponent-stops bs x =
    ⊎_elim
    (λ (none : bs ≡ []). ap (λ (l : List ℕ). is_ascii_digit (slice_index l 0)) none)
    (λ (some : HasExponent bs). ap (λ (l : List ℕ). is_ascii_digit (slice_index l 0)) some.7 ∙ (letter-other some.0 some.3).0)
    x

-- what may stand behind digits
tail-exponent : (n : ℕ) (bs : List ℕ) → nat_lt 0 n ≡ true → IsExponent bs → is_tail n bs ≡ true
tail-exponent n bs some x =
    ⊎_elim
    (λ (none : bs ≡ []). ap (is_tail n) none ∙ no_more n some)
    (λ (more : HasExponent bs).
    (let good : is_exponent (more.0 ∷ (more.1 ++ more.2)) ≡ true = ap is_exponent (sym more.7) ∙ has-found bs more in
    ap (is_tail n) more.7 ∙ rw (letter-other more.0 more.3).1 (and_from (nat_lt 0 n) (is_exponent (more.0 ∷ (more.1 ++ more.2))) some good)))
    x

some-whole : (whole : List ℕ) → nat_lt 0 (length whole) ≡ true → whole ≢ []
some-whole [] some = absurd cc
some-whole (d ∷ ds) some = λ n. cc

whole-some : (whole : List ℕ) → whole ≢ [] → nat_lt 0 (length whole) ≡ true
whole-some [] some = absurd (some refl)
whole-some (d ∷ ds) some = grind (arith, nat_tests)

some-part : (bs : List ℕ) → nat_lt 0 (digits bs) ≡ true → take (digits bs) bs ≢ []
some-part bs some = λ n. (let none : length (take (digits bs) bs) ≡ 0 = ap length n in
    let count : 0 < digits bs = grind (arith, nat_tests) in
    omega (arith, length-take (digits bs) bs, prefix_len-le-length is_ascii_digit bs, none, count))

tail-sound : (whole rest : List ℕ) → AreDigits whole → is_tail (length whole) rest ≡ true → IsNumber (whole ++ rest)
unfolding is_exponent
tail-sound whole [] are e =
    let some = some-whole whole (and_parts (nat_lt 0 (length whole)) true e).0 in
    (whole, [], inl (are, some), inl refl, refl)
tail-sound whole (b ∷ bs) are e =
    ⊎_elim
    (λ (point : (b == 46) ≡ true).
    (let f : is_fraction (length whole) bs ≡ true = rw point at e in
    let part = take (digits bs) bs in
    let exponent = drop (digits bs) bs in
    let k = and_parts (nat_lt 0 (length whole) || nat_lt 0 (digits bs)) (is_exponent exponent) f in
    let some : (whole ≢ []) ⊎ (part ≢ []) =
    ⊎_elim (λ (w : nat_lt 0 (length whole) ≡ true). inl (some-whole whole w)) (λ (p : nat_lt 0 (digits bs) ≡ true). inr (some-part bs p))
    (or_cases (nat_lt 0 (length whole)) (nat_lt 0 (digits bs)) k.0) in
    let rest : b ∷ bs ≡ 46 ∷ (part ++ exponent) = ap₂ (λ x l. x ∷ l) (eqb-true b 46 point) (sym (take-append-drop (digits bs) bs)) in
    let spelled : whole ++ b ∷ bs ≡ (whole ++ 46 ∷ part) ++ exponent = ap (λ l. whole ++ l) rest ∙ sym (append_assoc whole (46 ∷ part) exponent) in
    (whole ++ 46 ∷ part, exponent, inr (whole, part, are, front-digits bs, some, refl), exponent-sound exponent k.1, spelled)))
    (λ (other : (b == 46) ≡ false).
    (let x : (nat_lt 0 (length whole) && is_exponent (b ∷ bs)) ≡ true = rw other at e in
    let k = and_parts (nat_lt 0 (length whole)) (is_exponent (b ∷ bs)) x in
    (whole, b ∷ bs, inl (are, some-whole whole k.0), exponent-sound (b ∷ bs) k.1, refl)))
    (cases_Bool (b == 46))

-- numbers
number-sound : (bs : List ℕ) → is_number bs ≡ true → IsNumber bs
number-sound bs e =
    let whole = take (digits bs) bs in
    let count : digits bs ≡ length whole = omega (arith, length-take (digits bs) bs, prefix_len-le-length is_ascii_digit bs) in
    let tail : is_tail (length whole) (drop (digits bs) bs) ≡ true = ap (λ n. is_tail n (drop (digits bs) bs)) (sym count) ∙ e in
    subst IsNumber (take-append-drop (digits bs) bs) (tail-sound whole (drop (digits bs) bs) (front-digits bs) tail)

by_front : (whole rest : List ℕ) → AreDigits whole → is_ascii_digit (slice_index rest 0) ≡ false → is_tail (length whole) rest ≡ true → is_number (whole ++ rest) ≡ true
by_front whole rest are stops e =
    let count : digits (whole ++ rest) ≡ length whole = digits-front whole rest are stops in
    ap₂ is_tail count (ap (λ n. drop n (whole ++ rest)) count ∙ drop-append_seam whole rest) ∙ e

fraction-found : (n : ℕ) (part exponent : List ℕ) → AreDigits part → IsExponent exponent → (nat_lt 0 n ≡ true) ⊎ (part ≢ []) → is_fraction n (part ++ exponent) ≡ true
fraction-found n part exponent are x some =
    let count : digits (part ++ exponent) ≡ length part = digits-front part exponent are (exponent-stops exponent x) in
    let rest : drop (digits (part ++ exponent)) (part ++ exponent) ≡ exponent = ap (λ m. drop m (part ++ exponent)) count ∙ drop-append_seam part exponent in
    let any : (nat_lt 0 n || nat_lt 0 (digits (part ++ exponent))) ≡ true =
    ⊎_elim
    (λ (w : nat_lt 0 n ≡ true). or_left (nat_lt 0 n) (nat_lt 0 (digits (part ++ exponent))) w)
    (λ (p : part ≢ []). or_right (nat_lt 0 n) (nat_lt 0 (digits (part ++ exponent))) (ap (nat_lt 0) count ∙ whole-some part p))
    some in
    and_from _ _ any (ap is_exponent rest ∙ exponent-found exponent x)

pointed-no_sign : (ds t : List ℕ) → AreDigits ds → is_sign (slice_index (ds ++ 46 ∷ t) 0) ≡ false
unfolding is_sign
pointed-no_sign [] t a = refl
pointed-no_sign (d ∷ ds) t a = digit-no_sign d (and_parts (is_ascii_digit d) (list_all is_ascii_digit ds) a).0

-- a number by its mantissa
module _ (mantissa exponent : List ℕ) (x : IsExponent exponent) where
  plain-found : AreDigits mantissa → mantissa ≢ [] → (is_number (mantissa ++ exponent) ≡ true) × (is_sign (slice_index (mantissa ++ exponent) 0) ≡ false)
  plain-found are some = (
    by_front mantissa exponent are (exponent-stops exponent x) (tail-exponent (length mantissa) exponent (whole-some mantissa some) x),
    digits-no_sign mantissa exponent are some,
  )

  pointed-found : (whole part : List ℕ) → AreDigits whole → AreDigits part → (whole ≢ []) ⊎ (part ≢ []) → mantissa ≡ whole ++ 46 ∷ part →
      (is_number (mantissa ++ exponent) ≡ true) × (is_sign (slice_index (mantissa ++ exponent) 0) ≡ false)
  pointed-found whole part are more some is =
      let spelled : mantissa ++ exponent ≡ whole ++ 46 ∷ (part ++ exponent) = ap (λ m. m ++ exponent) is ∙ append_assoc whole (46 ∷ part) exponent in
      let any : (nat_lt 0 (length whole) ≡ true) ⊎ (part ≢ []) = ⊎_elim (λ (w : whole ≢ []). inl (whole-some whole w)) (λ (p : part ≢ []). inr p) some in (
        ap is_number spelled ∙ by_front whole (46 ∷ (part ++ exponent)) are refl (fraction-found (length whole) part exponent more x any),
        ap (λ (l : List ℕ). is_sign (slice_index l 0)) spelled ∙ pointed-no_sign whole (part ++ exponent) are,
      )

number-found : (bs : List ℕ) → IsNumber bs → (is_number bs ≡ true) × (is_sign (slice_index bs 0) ≡ false)
number-found bs (mantissa, exponent, m, x, is) =
    let found : (is_number (mantissa ++ exponent) ≡ true) × (is_sign (slice_index (mantissa ++ exponent) 0) ≡ false) =
    ⊎_elim
    (λ (plain : AreDigits mantissa × (mantissa ≢ [])). plain-found mantissa exponent x plain.0 plain.1)
    (λ (p : (whole : List ℕ) × (part : List ℕ) × AreDigits whole × AreDigits part × ((whole ≢ []) ⊎ (part ≢ [])) × (mantissa ≡ whole ++ 46 ∷ part)).
    pointed-found mantissa exponent x p.0 p.1 p.2 p.3 p.4 p.5)
    m in
    (ap is_number is ∙ found.0, ap (λ (l : List ℕ). is_sign (slice_index l 0)) is ∙ found.1)

-- words
letter-no_sign : (b : ℕ) → to_ascii_lowercase b ≡ 105 → is_sign b ≡ false
unfolding is_sign
letter-no_sign b e =
    false_from_ne_true (is_sign b) (λ s. ⊎_elim
    (λ (p : (b == 43) ≡ true). (let h : ◌≡◌ {A = ℕ} 43 105 = sym (ap to_ascii_lowercase (eqb-true b 43 p)) ∙ e in omega arith))
    (λ (p : (b == 45) ≡ true). (let h : ◌≡◌ {A = ℕ} 45 105 = sym (ap to_ascii_lowercase (eqb-true b 45 p)) ∙ e in omega arith))
    (or_cases (b == 43) (b == 45) s))

word-no_sign : (bs word : List ℕ) → IsWord (105 ∷ word) bs → is_sign (slice_index bs 0) ≡ false
unfolding is_sign
word-no_sign [] word e = refl
word-no_sign (b ∷ bs) word e = letter-no_sign b (ap (λ l. slice_index l 0) e)

word-test : (bs word : List ℕ) → IsWord word bs → bytes_eq (str_to_ascii_lowercase bs) word ≡ true
word-test bs word e = (bytes_eq-Decides (str_to_ascii_lowercase bs) word).1 e

test-word : (bs word : List ℕ) → bytes_eq (str_to_ascii_lowercase bs) word ≡ true → IsWord word bs
test-word bs word e = (bytes_eq-Decides (str_to_ascii_lowercase bs) word).0 e

-- values
infinity-sound : (bs : List ℕ) → is_infinity bs ≡ true → IsWord (codes "inf") bs ⊎ IsWord (codes "infinity") bs
infinity-sound bs e =
    ⊎_elim
    (λ (s : bytes_eq (str_to_ascii_lowercase bs) (codes "inf") ≡ true). inl (test-word bs (codes "inf") s))
    (λ (l : bytes_eq (str_to_ascii_lowercase bs) (codes "infinity") ≡ true). inr (test-word bs (codes "infinity") l))
    (or_cases (bytes_eq (str_to_ascii_lowercase bs) (codes "inf")) (bytes_eq (str_to_ascii_lowercase bs) (codes "infinity")) e)

infinity-found : (bs : List ℕ) → IsWord (codes "inf") bs ⊎ IsWord (codes "infinity") bs → (is_infinity bs ≡ true) × (is_sign (slice_index bs 0) ≡ false)
infinity-found bs w =
    let short = bytes_eq (str_to_ascii_lowercase bs) (codes "inf") in
    let long = bytes_eq (str_to_ascii_lowercase bs) (codes "infinity") in
    ⊎_elim
    (λ (s : IsWord (codes "inf") bs). (or_left short long (word-test bs (codes "inf") s), word-no_sign bs (codes "nf") s))
    (λ (l : IsWord (codes "infinity") bs). (or_right short long (word-test bs (codes "infinity") l), word-no_sign bs (codes "nfinity") l))
    w

pub value-sound : (bs : List ℕ) → is_value bs ≡ true → IsValue bs
unfolding is_value
value-sound bs e =
    let nan = bytes_eq (str_to_ascii_lowercase bs) (codes "nan") in
    let k = and_parts (nat_le (length bs) 128) (is_number (unsigned bs) || (is_infinity (unsigned bs) || nan)) e in
    let few : length bs ≤ 128 = leb-true (length bs) 128 k.0 in
    let s = sign-apart bs in
    ⊎_elim
    (λ (n : is_number (unsigned bs) ≡ true). (few, inl (s.0, unsigned bs, s.1, inl (number-sound (unsigned bs) n), s.2)))
    (λ (other : (is_infinity (unsigned bs) || nan) ≡ true).
    ⊎_elim
    (λ (i : is_infinity (unsigned bs) ≡ true). (few, inl (s.0, unsigned bs, s.1, inr (infinity-sound (unsigned bs) i), s.2)))
    (λ (w : nan ≡ true). (few, inr (test-word bs (codes "nan") w)))
    (or_cases (is_infinity (unsigned bs)) nan other))
    (or_cases (is_number (unsigned bs)) (is_infinity (unsigned bs) || nan) k.1)

signed-found : (bs sign rest : List ℕ) → IsSign sign → bs ≡ sign ++ rest → MayHaveSign rest → (is_number (unsigned bs) ≡ true) ⊎ (is_infinity (unsigned bs) ≡ true)
signed-found bs sign rest s is what =
    ⊎_elim
    (λ (n : IsNumber rest).
    (let found = number-found rest n in
    inl (ap is_number (ap unsigned is ∙ unsigned-behind sign rest s found.1) ∙ found.0)))
    (λ (w : IsWord (codes "inf") rest ⊎ IsWord (codes "infinity") rest).
    (let found = infinity-found rest w in
    inr (ap is_infinity (ap unsigned is ∙ unsigned-behind sign rest s found.1) ∙ found.0)))
    what

pub value-found : (bs : List ℕ) → IsValue bs → is_value bs ≡ true
unfolding is_value
value-found bs v =
    let nan = bytes_eq (str_to_ascii_lowercase bs) (codes "nan") in
    and_from (nat_le (length bs) 128) (is_number (unsigned bs) || (is_infinity (unsigned bs) || nan)) (le-leb (length bs) 128 v.0)
    (⊎_elim
    (λ (x : (sign : List ℕ) × (rest : List ℕ) × IsSign sign × MayHaveSign rest × (bs ≡ sign ++ rest)).
    ⊎_elim
    (λ (n : is_number (unsigned bs) ≡ true). or_left (is_number (unsigned bs)) (is_infinity (unsigned bs) || nan) n)
    (λ (i : is_infinity (unsigned bs) ≡ true). or_right (is_number (unsigned bs)) (is_infinity (unsigned bs) || nan) (or_left (is_infinity (unsigned bs)) nan i))
    (signed-found bs x.0 x.1 x.2 x.4 x.3))
    (λ (w : IsWord (codes "nan") bs).
    or_right (is_number (unsigned bs)) (is_infinity (unsigned bs) || nan) (or_right (is_infinity (unsigned bs)) nan (word-test bs (codes "nan") w)))
    v.1)

pub reads_the_values : ReadsTheValues
reads_the_values = λ bytes. (value-sound bytes, value-found bytes)
