-- No line feed stands in the parts of a line.
use Rattle.std.proofs.Common.{◌≡◌, ◌⊎◌, inl, inr, ℕ, ℤ, pos, negsuc, suc, ◌<◌, ◌^◌, Bool, true, false, not, ◌&&◌, List, [], ◌∷◌, ◌++◌, length, slice_index, refl, sym, ap, ◌∙◌, arith, subst, true≢false, ◌==◌, ⊎_elim, codes, if◌then◌else◌}
use Rattle.std.specs.Fmt.{decimal, signed_decimal}
use Rattle.std.specs.List.{list_all}
use Rattle.std.specs.Char.{is_ascii_digit, to_ascii_lowercase}
use Rattle.std.specs.Str.{str_to_ascii_lowercase}
use Rattle.std.proofs.lemmas.Bool.{and_from, cases_Bool, eqb-true, not-true}
use Rattle.std.proofs.lemmas.List.Folds.{list_all-append}
use Rattle.label_set.specs.Bytes.{is_label_name, is_metric_byte, is_metric_name, is_metric_start, is_name_byte, is_name_start}
use Rattle.label_set.specs.SetText.{braces_if_any, escaped, escaped_byte, label_text, labels_after, name_text, text_with_name}
use Rattle.label_set.specs.declared.texts.Pair.{Pair}
use Rattle.value_text.specs.Grammar.{AreDigits, IsExponent, IsMantissa, IsNumber, IsSign, IsWord, MayHaveSign}
use Rattle.value_text.specs.Numbers.{is_in_range}
use Rattle.value_text.specs.Values.{is_value}
use Rattle.value_text.proofs.DigitLemmas.{both, decimal-digits}
use Rattle.value_text.proofs.GrammarLemmas.{value-sound}
use Rattle.expo_reader.specs.Bodies.{lines_of, onto_first}
use Rattle.federation.proofs.NumberLemmas.{in_range}

abbrev pub NoFeed : List ℕ → Type 0
NoFeed bs = list_all (λ b. not (b == 10)) bs ≡ true

pub join : (a b : List ℕ) → NoFeed a → NoFeed b → NoFeed (a ++ b)
join a b x y = list_all-append (λ b. not (b == 10)) a b ∙ and_from _ _ x y

-- a text is cut at a line feed behind a line
pub cut_line : (line rest : List ℕ) → NoFeed line → lines_of (line ++ 10 ∷ rest) ≡ line ∷ lines_of rest
unfolding lines_of
cut_line [] rest e = refl
cut_line (b ∷ line) rest e =
    let k = both (not (b == 10)) (list_all (λ b. not (b == 10)) line) e in
    let other : (b == 10) ≡ false = not-true (b == 10) k.0 in
    rw other (ap (onto_first b) (cut_line line rest k.1))

-- bytes that pass a test which a line feed doesn't
no_feed : (test : ℕ → Bool) → test 10 ≡ false → (b : ℕ) → test b ≡ true → not (b == 10) ≡ true
no_feed test none b e =
    ⊎_elim (λ (q : (b == 10) ≡ true). absurd (true≢false (sym e ∙ ap test (eqb-true b 10 q) ∙ none))) (λ (q : (b == 10) ≡ false). ap not q)
    (cases_Bool (b == 10))

no_feeds : (test : ℕ → Bool) → test 10 ≡ false → (bs : List ℕ) → list_all test bs ≡ true → NoFeed bs
no_feeds test none [] e = refl
no_feeds test none (b ∷ bs) e = let k = both (test b) (list_all test bs) e in and_from _ _ (no_feed test none b k.0) (no_feeds test none bs k.1)

-- names
metric_name-none : (name : List ℕ) → is_metric_name name ≡ true → NoFeed name
unfolding is_metric_byte is_metric_start is_name_start
metric_name-none name e =
    let k = both (not (length name == 0)) (is_metric_start (slice_index name 0) && list_all is_metric_byte name) e in
    no_feeds is_metric_byte refl name (both (is_metric_start (slice_index name 0)) (list_all is_metric_byte name) k.1).1

label_name-none : (name : List ℕ) → is_label_name name ≡ true → NoFeed name
unfolding is_name_byte is_name_start
label_name-none name e =
    let k = both (not (length name == 0)) (is_name_start (slice_index name 0) && list_all is_name_byte name) e in
    no_feeds is_name_byte refl name (both (is_name_start (slice_index name 0)) (list_all is_name_byte name) k.1).1

-- escapes
byte-none : (b : ℕ) → NoFeed (escaped_byte b)
unfolding escaped_byte
byte-none b =
    ⊎_elim (λ (s : (b == 92) ≡ true). rw s refl)
    (λ (s : (b == 92) ≡ false).
    ⊎_elim (λ (q : (b == 34) ≡ true). rw (s, q) refl)
    (λ (q : (b == 34) ≡ false).
    ⊎_elim (λ (n : (b == 10) ≡ true). rw (s, q, n) refl) (λ (n : (b == 10) ≡ false). rw (s, q, n) (and_from _ _ (ap not n) refl))
    (cases_Bool (b == 10)))
    (cases_Bool (b == 34)))
    (cases_Bool (b == 92))

escaped-none : (bs : List ℕ) → NoFeed (escaped bs)
escaped-none [] = refl
escaped-none (b ∷ bs) = join (escaped_byte b) (escaped bs) (byte-none b) (escaped-none bs)

quoted-none : (bs : List ℕ) → NoFeed (codes "\"" ++ (escaped bs ++ codes "\""))
quoted-none bs = join (escaped bs) (codes "\"") (escaped-none bs) refl

-- labels
name-none : (name : List ℕ) → NoFeed (name_text name)
name-none name =
    ⊎_elim
    (λ (q : is_label_name name ≡ true).
    (let is : name_text name ≡ name = ap (λ (b : Bool). if b then name else codes "\"" ++ (escaped name ++ codes "\"")) q in
    subst NoFeed (sym is) (label_name-none name q)))
    (λ (q : is_label_name name ≡ false).
    (let is : name_text name ≡ codes "\"" ++ (escaped name ++ codes "\"") =
    ap (λ (b : Bool). if b then name else codes "\"" ++ (escaped name ++ codes "\"")) q in
    subst NoFeed (sym is) (quoted-none name)))
    (cases_Bool (is_label_name name))

label-none : (p : Pair) → NoFeed (label_text p)
label-none p = join (name_text p.name) (codes "=\"" ++ (escaped p.value ++ codes "\"")) (name-none p.name) (quoted-none p.value)

labels-none : (ps : List Pair) → NoFeed (labels_after ps)
labels-none [] = refl
labels-none (p ∷ ps) = join (codes "," ++ label_text p) (labels_after ps) (label-none p) (labels-none ps)

braces-none : (labels : List ℕ) → NoFeed labels → NoFeed (braces_if_any labels)
braces-none [] h = refl
braces-none (b ∷ bs) h = join bs (codes "}") (both (not (b == 10)) (list_all (λ b. not (b == 10)) bs) h).1 refl

-- the text of a set with a name
pub text-none : (name : List ℕ) (ps : List Pair) → NoFeed (text_with_name name (labels_after ps))
text-none name ps =
    let labels = labels_after ps in
    let quoted = codes "{\"" ++ (escaped name ++ (codes "\"" ++ (labels ++ codes "}"))) in
    ⊎_elim
    (λ (q : is_metric_name name ≡ true).
    (let is : text_with_name name labels ≡ name ++ braces_if_any labels = ap (λ (b : Bool). if b then name ++ braces_if_any labels else quoted) q in
    subst NoFeed (sym is) (join name (braces_if_any labels) (metric_name-none name q) (braces-none labels (labels-none ps)))))
    (λ (q : is_metric_name name ≡ false).
    (let is : text_with_name name labels ≡ quoted = ap (λ (b : Bool). if b then name ++ braces_if_any labels else quoted) q in
    subst NoFeed (sym is) (join (escaped name) (codes "\"" ++ (labels ++ codes "}")) (escaped-none name) (join labels (codes "}") (labels-none ps) refl))))
    (cases_Bool (is_metric_name name))

-- numbers
digits-none : (ds : List ℕ) → AreDigits ds → NoFeed ds
digits-none ds e = no_feeds is_ascii_digit refl ds e

decimal-none : (n : ℕ) → n < 2 ^ 64 → NoFeed (decimal n)
decimal-none n small = digits-none (decimal n) (both (not (length (decimal n) == 0)) (list_all is_ascii_digit (decimal n)) (decimal-digits n small)).1

pub moment-none : (ms : ℤ) → is_in_range ms ≡ true → NoFeed (signed_decimal ms)
moment-none (pos n) r = decimal-none n (omega (arith, in_range n r))
moment-none (negsuc n) r = decimal-none (suc n) (omega (arith, in_range n r))

-- values
sign-none : (bs : List ℕ) → IsSign bs → NoFeed bs
sign-none bs (inl e) = subst NoFeed (sym e) refl
sign-none bs (inr (inl e)) = subst NoFeed (sym e) refl
sign-none bs (inr (inr e)) = subst NoFeed (sym e) refl

mark-none : (b : ℕ) (bs : List ℕ) → (b ≡ 101) ⊎ (b ≡ 69) → NoFeed bs → NoFeed (b ∷ bs)
mark-none b bs (inl e) h = subst (λ (x : ℕ). NoFeed (x ∷ bs)) (sym e) h
mark-none b bs (inr e) h = subst (λ (x : ℕ). NoFeed (x ∷ bs)) (sym e) h

exponent-none : (bs : List ℕ) → IsExponent bs → NoFeed bs
exponent-none bs (inl e) = subst NoFeed (sym e) refl
exponent-none bs (inr h) = subst NoFeed (sym h.7) (mark-none h.0 (h.1 ++ h.2) h.3 (join h.1 h.2 (sign-none h.1 h.4) (digits-none h.2 h.5)))

mantissa-none : (bs : List ℕ) → IsMantissa bs → NoFeed bs
mantissa-none bs (inl h) = digits-none bs h.0
mantissa-none bs (inr h) = subst NoFeed (sym h.5) (join h.0 (46 ∷ h.1) (digits-none h.0 h.2) (digits-none h.1 h.3))

number-none : (bs : List ℕ) → IsNumber bs → NoFeed bs
number-none bs h = subst NoFeed (sym h.4) (join h.0 h.1 (mantissa-none h.0 h.2) (exponent-none h.1 h.3))

lower-none : (bs : List ℕ) → NoFeed (str_to_ascii_lowercase bs) → NoFeed bs
lower-none [] e = refl
lower-none (b ∷ bs) e =
    let k = both (not (to_ascii_lowercase b == 10)) (list_all (λ b. not (b == 10)) (str_to_ascii_lowercase bs)) e in
    and_from _ _ (no_feed (λ b. not (to_ascii_lowercase b == 10)) refl b k.0) (lower-none bs k.1)

word-none : (word bs : List ℕ) → NoFeed word → IsWord word bs → NoFeed bs
word-none word bs h e = lower-none bs (subst NoFeed (sym e) h)

signed-none : (bs : List ℕ) → MayHaveSign bs → NoFeed bs
signed-none bs (inl h) = number-none bs h
signed-none bs (inr (inl h)) = word-none (codes "inf") bs refl h
signed-none bs (inr (inr h)) = word-none (codes "infinity") bs refl h

any-none : (bs : List ℕ) → ((sign : List ℕ) × (rest : List ℕ) × IsSign sign × MayHaveSign rest × (bs ≡ sign ++ rest)) ⊎ IsWord (codes "nan") bs → NoFeed bs
any-none bs (inl h) = subst NoFeed (sym h.4) (join h.0 h.1 (sign-none h.0 h.2) (signed-none h.1 h.3))
any-none bs (inr h) = word-none (codes "nan") bs refl h

pub value-none : (bs : List ℕ) → is_value bs ≡ true → NoFeed bs
value-none bs e = any-none bs (value-sound bs e).1
