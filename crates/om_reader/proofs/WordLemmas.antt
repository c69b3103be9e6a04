-- Names, values and timestamps are words, and what ends them.
use Rattle.std.proofs.Common.{◌≡◌, ℕ, ℤ, ◌<◌, Bool, true, false, not, ◌&&◌, List, [], ◌∷◌, ◌++◌, length, take, drop, refl, sym, ap, ap₂, ◌∙◌, arith, ◌==◌, Some, nat_lt, nat_le, slice_index, subst}
use Rattle.std.specs.List.{list_all}
use Rattle.std.proofs.Math.Seq.{take-append_seam, drop-append_seam}
use Rattle.std.proofs.lemmas.List.{take-append-drop}
use Rattle.std.proofs.lemmas.Bool.{and_from, eqb-true, false_from_ne_true}
use Rattle.std.proofs.lemmas.Bool.Decides.{nat_tests}
use Rattle.std.proofs.lemmas.Grind.{common_steps}
use Rattle.label_set.specs.Bytes.{is_label_name, is_name_byte, is_name_start}
use Rattle.value_text.specs.Numbers.{is_in_range}
use Rattle.value_text.specs.Values.{is_sign, unsigned, is_number, is_value}
use Rattle.expo_lexer.specs.Tokens.{is_blank, is_mark, is_word_byte, word_len}
use Rattle.expo_reader.specs.Texts.{mark_at, text_at, text_in, word_at}
use Rattle.expo_reader.proofs.FrontLemmas.{both, Stops, bare-front, front-len, text-front}
use Rattle.expo_reader.proofs.QuoteLemmas.{is_text}
use Rattle.expo_reader.proofs.RowLemmas.{chosen, mapped, pair}
use Rattle.expo_reader.proofs.SoundLemmas.{blanks, text-sound as text-behind}
use Rattle.expo_reader.proofs.WordLemmas.{IsWord, value-word}
use Rattle.om_reader.specs.Forms.{field_at, field_behind, field_len}
use Rattle.om_reader.specs.Timestamps.{is_minus, signed, stamp_millis, thousands}

-- a label name is a word
name_byte-word : (b : ℕ) → is_name_byte b ≡ true → is_word_byte b ≡ true
unfolding is_name_byte is_name_start is_word_byte is_blank is_mark
name_byte-word b e = grind (arith, nat_tests, common_steps)

names-words : (bs : List ℕ) → list_all is_name_byte bs ≡ true → list_all is_word_byte bs ≡ true
names-words [] e = refl
names-words (b ∷ bs) e = let k = both (is_name_byte b) (list_all is_name_byte bs) e in and_from _ _ (name_byte-word b k.0) (names-words bs k.1)

some-length : (bs : List ℕ) → not (length bs == 0) ≡ true → 0 < length bs
some-length [] e = absurd cc
some-length (b ∷ bs) e = omega arith

pub label_name-word : (bs : List ℕ) → is_label_name bs ≡ true → IsWord bs
label_name-word bs e =
    let k = both (not (length bs == 0)) (is_name_start (slice_index bs 0) && list_all is_name_byte bs) e in
    (some-length bs k.0, names-words bs (both (is_name_start (slice_index bs 0)) (list_all is_name_byte bs) k.1).1)

-- a word in front, and what follows it
pub word-found : (w t : List ℕ) → IsWord w → Stops is_word_byte t → word_at (w ++ t) ≡ Some (w, t)
word-found w t word s =
    let len : word_len (w ++ t) ≡ length w = front-len is_word_byte w t word.1 s in
    let some = word.0 in
    let test : nat_lt 0 (word_len (w ++ t)) ≡ true = grind (arith, nat_tests) in
    rw test (ap₂ (λ x y. Some (x, y)) (ap (λ n. take n (w ++ t)) len ∙ take-append_seam w t) (ap (λ n. drop n (w ++ t)) len ∙ drop-append_seam w t))

pub word-split : (t w r : List ℕ) → word_at t ≡ Some (w, r) → t ≡ w ++ r
word-split t w r e =
    let k = chosen (nat_lt 0 (word_len t)) (Some (take (word_len t) t, drop (word_len t) t)) (w, r) e in
    let parts = pair (take (word_len t) t) w (drop (word_len t) t) r k.1 in
    sym (take-append-drop (word_len t) t) ∙ ap₂ (λ a b. a ++ b) parts.0 parts.1

-- a mark
pub mark-split : (mark : ℕ) (t r : List ℕ) → 0 < mark → mark_at mark t ≡ Some r → t ≡ mark ∷ r
mark-split mark [] r some e =
    let k = chosen (0 == mark) (Some []) r e in absurd (omega (arith, eqb-true 0 mark k.0))
mark-split mark (x ∷ t) r some e =
    let k = chosen (x == mark) (Some t) r e in
    let rest : t ≡ r = cc k.1 in
    ap₂ (λ y s. y ∷ s) (eqb-true x mark k.0) rest

-- a text in quotes
text-in : (t : List ℕ) → text_in (34 ∷ t) ≡ text_at (34 ∷ t)
unfolding text_in is_blank
text-in t = ap text_at (bare-front [] (34 ∷ t) refl refl)

pub text-found : (text t : List ℕ) → is_text false text ≡ true → text_at (34 ∷ (text ++ 34 ∷ t)) ≡ Some (text, t)
text-found text t is = sym (text-in (text ++ 34 ∷ t)) ∙ text-front [] text t refl is

no-blanks : (t : List ℕ) → blanks (34 ∷ t) ≡ []
unfolding is_blank
no-blanks t = refl

pub text-split : (t text r : List ℕ) → text_at t ≡ Some (text, r) → (t ≡ 34 ∷ (text ++ 34 ∷ r)) × (is_text false text ≡ true)
text-split [] text r e = absurd cc
text-split (x ∷ t) text r e =
    let quote : x ≡ 34 = eqb-true x 34 (chosen (x == 34) _ (text, r) e).0 in
    let here : text_at (34 ∷ t) ≡ Some (text, r) = subst (λ (y : ℕ). text_at (y ∷ t) ≡ Some (text, r)) quote e in
    let k = text-behind (34 ∷ t) text r (text-in t ∙ here) in
    (ap (λ y. y ∷ t) quote ∙ k.0 ∙ ap (λ b. b ++ 34 ∷ (text ++ 34 ∷ r)) (no-blanks t), k.1)

-- what stands between spaces
no-space : (b : ℕ) → is_word_byte b ≡ true → not (b == 32) ≡ true
unfolding is_word_byte is_blank is_mark
no-space b e = grind (arith, nat_tests, common_steps)

words-fields : (bs : List ℕ) → list_all is_word_byte bs ≡ true → list_all (λ b. not (b == 32)) bs ≡ true
words-fields [] e = refl
words-fields (b ∷ bs) e = let k = both (is_word_byte b) (list_all is_word_byte bs) e in and_from _ _ (no-space b k.0) (words-fields bs k.1)

-- nothing follows, or a space does
abbrev pub EndsField : List ℕ → Type 0
EndsField t = Stops (λ b. not (b == 32)) t

pub field-found : (w t : List ℕ) → IsWord w → EndsField t → field_at (32 ∷ (w ++ t)) ≡ Some (w, t)
unfolding field_at
field-found w t word s =
    let len : field_len (w ++ t) ≡ length w = front-len (λ b. not (b == 32)) w t (words-fields w word.1) s in
    ap₂ (λ x y. Some (x, y)) (ap (λ n. take n (w ++ t)) len ∙ take-append_seam w t) (ap (λ n. drop n (w ++ t)) len ∙ drop-append_seam w t)

pub field-split : (bs w r : List ℕ) → field_at bs ≡ Some (w, r) → bs ≡ 32 ∷ (w ++ r)
unfolding field_at
field-split bs w r e =
    let m = mapped field_behind (mark_at 32 bs) (w, r) e in
    let t = m.0 in
    let front : take (field_len t) t ≡ w = ap (λ (p : List ℕ × List ℕ). p.0) m.2 in
    let back : drop (field_len t) t ≡ r = ap (λ (p : List ℕ × List ℕ). p.1) m.2 in
    mark-split 32 bs t (omega arith) m.1 ∙ ap (λ l. 32 ∷ l) (sym (take-append-drop (field_len t) t) ∙ ap₂ (λ a b. a ++ b) front back)

-- a timestamp is a word that begins with no `#`
stamp-parts : (bs : List ℕ) (ms : ℤ) → stamp_millis bs ≡ Some ms → ((nat_le (length bs) 128 && is_number (unsigned bs)) ≡ true) × (is_in_range ms ≡ true)
unfolding stamp_millis
stamp-parts bs ms e =
    let said = signed (is_minus bs) (thousands (unsigned bs)) in
    let k = chosen ((nat_le (length bs) 128 && is_number (unsigned bs)) && is_in_range said) (Some said) ms e in
    let same : said ≡ ms = cc k.1 in
    let t = both (nat_le (length bs) 128 && is_number (unsigned bs)) (is_in_range said) k.0 in
    (t.0, ap is_in_range (sym same) ∙ t.1)

pub stamp-range : (bs : List ℕ) (ms : ℤ) → stamp_millis bs ≡ Some ms → is_in_range ms ≡ true
stamp-range bs ms e = (stamp-parts bs ms e).1

stamp-number : (bs : List ℕ) (ms : ℤ) → stamp_millis bs ≡ Some ms → (nat_le (length bs) 128 ≡ true) × (is_number (unsigned bs) ≡ true)
stamp-number bs ms e = both (nat_le (length bs) 128) (is_number (unsigned bs)) (stamp-parts bs ms e).0

number-value : (bs : List ℕ) → nat_le (length bs) 128 ≡ true → is_number (unsigned bs) ≡ true → is_value bs ≡ true
unfolding is_value
number-value bs short number = and_from _ _ short (rw number refl)

pub stamp-word : (bs : List ℕ) (ms : ℤ) → stamp_millis bs ≡ Some ms → IsWord bs
stamp-word bs ms e = let k = stamp-number bs ms e in value-word bs (number-value bs k.0 k.1)

hash-no_number : (bs : List ℕ) → is_number (unsigned (35 ∷ bs)) ≡ false
unfolding is_sign
hash-no_number bs = refl

pub stamp-no_hash : (bs t : List ℕ) (ms : ℤ) → stamp_millis bs ≡ Some ms → (slice_index (bs ++ t) 0 == 35) ≡ false
stamp-no_hash [] t ms e = absurd (omega (arith, (stamp-word [] ms e).0))
stamp-no_hash (x ∷ bs) t ms e =
    false_from_ne_true (x == 35) (λ h. (let hash = eqb-true x 35 h in
    let number = (stamp-number (x ∷ bs) ms e).1 in
    let no : ◌≡◌ {A = Bool} false true = sym (hash-no_number bs) ∙ sym (ap (λ y. is_number (unsigned (y ∷ bs))) hash) ∙ number in absurd cc))
