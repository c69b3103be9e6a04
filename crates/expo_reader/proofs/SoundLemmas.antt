-- What is read is written in the format: the parts of a line that are found make it up.
use Rattle.std.proofs.Common.{◌≡◌, ◌≢◌, ℕ, ℤ, suc, zero, ◌+◌, ◌<◌, Bool, true, false, not, ◌&&◌, List, [], ◌∷◌, ◌++◌, length, take, drop, refl, sym, ap, ap₂, ◌∙◌, arith, ◌==◌, Option, Some, None, subst, ⊎_elim, inl, inr, append_assoc, append-nil, option_map, true≢false, nat_lt}
use Rattle.std.specs.List.{list_all}
use Rattle.std.proofs.lemmas.List.{take-append-drop, nil_from_length}
use Rattle.std.proofs.lemmas.List.Folds.{list_all-append, length-prefix_len}
use Rattle.std.proofs.lemmas.Bool.{and_from, eqb-true, cases_Bool}
use Rattle.std.proofs.lemmas.Bool.Decides.{nat_tests}
use Rattle.label_set.specs.declared.texts.Pair.{Pair}
use Rattle.value_text.specs.Numbers.{millis}
use Rattle.expo_lexer.specs.Tokens.{is_blank, is_word_byte, blank_len, word_len, quote_from, text_len}
use Rattle.expo_reader.specs.Texts.{bare, is_end, word_at, mark_at, text_at, word_in, mark_in, text_in, text_value}
use Rattle.label_set.specs.declared.forms.Form.{Form}
use Rattle.label_set.specs.declared.forms.Form.TheVariants.{Plain, Quoted}
use Rattle.expo_reader.specs.Forms.{label_in, labels_in, stamp_in, last_word, closed_or, label_and_more, after_label}
use Rattle.expo_reader.specs.Names.{quote_in, resolved_text, is_exposed_name, is_quoted_name, bare_name, quoted_name, name_in}
use Rattle.expo_reader.specs.Grammar.{IsBlanks, IsLabel, IsLabelName, IsLabels, IsLineEnd, IsQuote}
use Rattle.expo_reader.proofs.FrontLemmas.{both, Stops, passes, stops-drop}
use Rattle.expo_reader.proofs.QuoteLemmas.{is_text, text-sound as text-pieces}
use Rattle.expo_reader.proofs.RowLemmas.{chosen, first-label, mapped, pair, passing-sound, either, behind-sound, label-parts}
use Rattle.expo_reader.proofs.WordLemmas.{IsWord}

-- the blanks in front
abbrev pub blanks : List ℕ → List ℕ
blanks bs = take (blank_len bs) bs

pub apart : (bs : List ℕ) → bs ≡ blanks bs ++ bare bs
apart bs = sym (take-append-drop (blank_len bs) bs)

pub blanks-are : (bs : List ℕ) → IsBlanks (blanks bs)
blanks-are bs = passes is_blank bs

-- a word
word-split : (t w r : List ℕ) → word_at t ≡ Some (w, r) → (t ≡ w ++ r) × IsWord w × Stops is_word_byte r
word-split t w r e =
    let k = chosen (nat_lt 0 (word_len t)) (Some (take (word_len t) t, drop (word_len t) t)) (w, r) e in
    let both_parts = pair (take (word_len t) t) w (drop (word_len t) t) r k.1 in
    let front : w ≡ take (word_len t) t = sym both_parts.0 in
    let back : r ≡ drop (word_len t) t = sym both_parts.1 in
    let len : length (take (word_len t) t) ≡ word_len t = length-prefix_len is_word_byte t in
    let some : 0 < length (take (word_len t) t) = (let h = k.0 in rw len (grind (arith, nat_tests))) in (
      sym (take-append-drop (word_len t) t) ∙ ap₂ (λ a b. a ++ b) (sym front) (sym back),
      (subst (λ (l : List ℕ). 0 < length l) (sym front) some, ap (list_all is_word_byte) front ∙ passes is_word_byte t),
      subst (Stops is_word_byte) (sym back) (stops-drop is_word_byte t),
    )

pub word-sound : (bs w r : List ℕ) → word_in bs ≡ Some (w, r) → (bs ≡ blanks bs ++ (w ++ r)) × IsWord w × Stops is_word_byte r
unfolding word_in
word-sound bs w r e =
    let k = word-split (bare bs) w r e in
    (apart bs ∙ ap (λ t. blanks bs ++ t) k.0, k.1, k.2)

-- a mark
mark-split : (mark : ℕ) (t r : List ℕ) → 0 < mark → mark_at mark t ≡ Some r → t ≡ mark ∷ r
mark-split mark [] r some e =
    let k = chosen (0 == mark) (Some []) r e in absurd (omega (arith, eqb-true 0 mark k.0))
mark-split mark (x ∷ t) r some e =
    let k = chosen (x == mark) (Some t) r e in
    let rest : t ≡ r = cc k.1 in
    ap₂ (λ y s. y ∷ s) (eqb-true x mark k.0) rest

pub mark-sound : (mark : ℕ) (bs r : List ℕ) → 0 < mark → mark_in mark bs ≡ Some r → bs ≡ blanks bs ++ mark ∷ r
unfolding mark_in
mark-sound mark bs r some e = apart bs ∙ ap (λ t. blanks bs ++ t) (mark-split mark (bare bs) r some e)

-- a text in quotes
quote-split : (n m : ℕ) (escaped : Bool) (bs : List ℕ) → quote_from n escaped bs ≡ Some m →
    (k : ℕ) × (m ≡ n + k) × (is_text escaped (take k bs) ≡ true) × (drop k bs ≡ 34 ∷ drop (k + 1) bs)
unfolding quote_from is_text
quote-split n m escaped [] e = absurd cc
quote-split n m escaped (b ∷ bs) e =
    ⊎_elim
    (λ (q : (not escaped && (b == 34)) ≡ true).
    (let parts = both (not escaped) (b == 34) q in
    let here : Some n ≡ Some m = rw q at e in
    let same : n ≡ m = cc here in
    (0, omega (arith, same), parts.0, ap (λ y. y ∷ bs) (eqb-true b 34 parts.1))))
    (λ (q : (not escaped && (b == 34)) ≡ false).
    (let next : quote_from (n + 1) (not escaped && (b == 92)) bs ≡ Some m = rw q at e in
    let k = quote-split (n + 1) m (not escaped && (b == 92)) bs next in
    (suc k.0, omega (arith, k.1), rw q k.2, k.3 ∙ (let i : suc (k.0 + 1) ≡ suc k.0 + 1 = omega arith in ap (λ j. 34 ∷ drop j (b ∷ bs)) i))))
    (cases_Bool (not escaped && (b == 34)))

text-found : (t : List ℕ) (o : Option ℕ) (text r : List ℕ) → option_map {U = List ℕ × List ℕ} (λ (n : ℕ). (take n t, drop (n + 2) (34 ∷ t))) o ≡ Some (text, r) →
    (n : ℕ) × (o ≡ Some n) × (take n t ≡ text) × (drop (n + 1) t ≡ r)
text-found t None text r e = absurd cc
text-found t (Some n) text r e =
    let p = pair (take n t) text (drop (n + 2) (34 ∷ t)) r e in
    let i : suc (n + 1) ≡ n + 2 = omega arith in
    (n, refl, p.0, ap (λ j. drop j (34 ∷ t)) i ∙ p.1)

text-split : (t text r : List ℕ) → text_at t ≡ Some (text, r) → (t ≡ 34 ∷ (text ++ 34 ∷ r)) × (is_text false text ≡ true)
text-split [] text r e = absurd cc
text-split (x ∷ t) text r e =
    let k = chosen (x == 34) (option_map {U = List ℕ × List ℕ} (λ (n : ℕ). (take n t, drop (n + 2) (x ∷ t))) (text_len t)) (text, r) e in
    let quote : x ≡ 34 = eqb-true x 34 k.0 in
    let f = text-found t (text_len t) text r (subst (λ (y : ℕ). option_map {U = List ℕ × List ℕ} (λ (n : ℕ). (take n t, drop (n + 2) (y ∷ t))) (text_len t) ≡ Some (text, r)) quote k.1) in
    let q = quote-split 0 f.0 false t f.1 in
    let n : f.0 ≡ q.0 = omega (arith, q.1) in
    let inside : t ≡ take q.0 t ++ 34 ∷ drop (q.0 + 1) t = sym (take-append-drop q.0 t) ∙ ap (λ l. take q.0 t ++ l) q.3 in
    let is : take q.0 t ≡ text = ap (λ j. take j t) (sym n) ∙ f.2 in
    let rest : drop (q.0 + 1) t ≡ r = ap (λ j. drop (j + 1) t) (sym n) ∙ f.3 in
    (ap₂ (λ y l. y ∷ l) quote (inside ∙ ap₂ (λ a b. a ++ 34 ∷ b) is rest), ap (is_text false) (sym is) ∙ q.2)

pub text-sound : (bs text r : List ℕ) → text_in bs ≡ Some (text, r) → (bs ≡ blanks bs ++ 34 ∷ (text ++ 34 ∷ r)) × (is_text false text ≡ true)
unfolding text_in
text-sound bs text r e =
    let k = text-split (bare bs) text r e in
    (apart bs ∙ ap (λ t. blanks bs ++ t) k.0, k.1)

-- a text in quotes with what it stands for
pub quote-sound : (bs value r : List ℕ) → quote_in bs ≡ Some (value, r) → (quote : List ℕ) × IsQuote quote value × (bs ≡ blanks bs ++ (quote ++ r))
unfolding quote_in
quote-sound bs value r e = by_text (text_in bs) refl e
  where
    by_text : (o : Option (List ℕ × List ℕ)) → text_in bs ≡ o → resolved_text o ≡ Some (value, r) → (quote : List ℕ) × IsQuote quote value × (bs ≡ blanks bs ++ (quote ++ r))
    by_text None t v = absurd cc
    by_text (Some (text, after)) t v =
        let m = mapped {B = List ℕ × List ℕ} (λ (w : List ℕ). (w, after)) (text_value text) (value, r) v in
        let p = pair m.0 value after r (ap (λ (q : List ℕ × List ℕ). Some q) m.2) in
        let quotes = text-sound bs text after t in
        let is = text-pieces text value quotes.1 (m.1 ∙ ap (λ (w : List ℕ). Some w) p.0) in
        let spelled : blanks bs ++ ((34 ∷ (text ++ 34 ∷ [])) ++ r) ≡ blanks bs ++ 34 ∷ (text ++ 34 ∷ r) = simp append_assoc in
        (34 ∷ (text ++ 34 ∷ []), (text, is.0, is.1, refl), quotes.0 ∙ ap (λ t. blanks bs ++ 34 ∷ (text ++ 34 ∷ t)) p.1 ∙ sym spelled)

-- the name of a label as it is written
bare-sound : (form : Form) (bs name rest : List ℕ) → bare_name bs ≡ Some (name, rest) → (written : List ℕ) × IsLabelName form written name × (bs ≡ blanks bs ++ (written ++ rest))
bare-sound form bs name rest e =
    let k = passing-sound is_exposed_name (word_in bs) name rest e in
    (name, inl (k.0, refl), (word-sound bs name rest k.1).0)

name-sound : (form : Form) (bs name rest : List ℕ) → name_in form bs ≡ Some (name, rest) → (written : List ℕ) × IsLabelName form written name × (bs ≡ blanks bs ++ (written ++ rest))
unfolding name_in
name-sound Plain bs name rest e = bare-sound Plain bs name rest e
name-sound Quoted bs name rest e =
    ⊎_elim
    (λ (b : bare_name bs ≡ Some (name, rest)). bare-sound Quoted bs name rest b)
    (λ (q : quoted_name bs ≡ Some (name, rest)).
    (let k = passing-sound is_quoted_name (quote_in bs) name rest q in
    let found = quote-sound bs name rest k.1 in
    (found.0, inr (refl, k.0, found.1), found.2)))
    (either (bare_name bs) (quoted_name bs) (name, rest) e)

-- a label, with no blanks behind it
label-sound : (form : Form) (bs : List ℕ) (label : Pair) (r : List ℕ) → label_in form bs ≡ Some (label, r) → (one : List ℕ) × IsLabel form one label × (bs ≡ one ++ r)
label-sound form bs label r e =
    let p = label-parts form bs label r e in
    let rest = p.0 in
    let b = behind-sound label.name rest label r p.2 in
    let quoted = b.0 in
    let named = name-sound form bs label.name rest p.1 in
    let written = named.0 in
    let mark = mark-sound 61 rest quoted (omega arith) b.1 in
    let value = quote-sound quoted label.value r b.2 in
    let quote = value.0 in
    let one = blanks bs ++ (written ++ (blanks rest ++ 61 ∷ (blanks quoted ++ (quote ++ [])))) in
    let spelled : bs ≡ blanks bs ++ (written ++ (blanks rest ++ 61 ∷ (blanks quoted ++ (quote ++ r)))) =
    named.2 ∙ ap (λ l. blanks bs ++ (written ++ l)) (mark ∙ ap (λ q. blanks rest ++ 61 ∷ q) value.2) in
    let joined : one ++ r ≡ blanks bs ++ (written ++ (blanks rest ++ 61 ∷ (blanks quoted ++ (quote ++ r)))) = simp append_assoc in (
      one,
      (blanks bs, written, blanks rest, blanks quoted, quote, [], blanks-are bs, blanks-are rest, blanks-are quoted, refl, named.1, value.1, refl),
      spelled ∙ sym joined,
    )

-- blanks behind a label belong to it
label-blanks : (form : Form) (one b : List ℕ) (label : Pair) → IsLabel form one label → IsBlanks b → IsLabel form (one ++ b) label
label-blanks form one b label l e =
    (l.0, l.1, l.2, l.3, l.4, l.5 ++ b, l.6, l.7, l.8, list_all-append is_blank l.5 b ∙ and_from _ _ l.9 e, l.10, l.11, ap (λ s. s ++ b) l.12 ∙ simp append_assoc)

-- labels and the brace behind them
unfoldable pub HasLabels : Form → List ℕ → List Pair → List ℕ → Type 0
HasLabels form bs labels r = (inside : List ℕ) × IsLabels form inside labels × (bs ≡ inside ++ 125 ∷ r)

module _ (form : Form) (next_labels : List ℕ → Option (List Pair × List ℕ)) (sound : (next : List ℕ) (labels : List Pair) (r : List ℕ) → next_labels next ≡ Some (labels, r) → HasLabels form next labels r)
    (bs one rest : List ℕ) (label : Pair) (is : IsLabel form one label) (whole : bs ≡ one ++ rest) (labels : List Pair) (r : List ℕ) where
  by_comma : (o : Option (List ℕ)) → mark_in 44 rest ≡ o → after_label next_labels rest o ≡ Some (labels, r) → HasLabels form bs (label ∷ labels) r
  unfolding HasLabels
  by_comma (Some next) c e =
      let h = sound next labels r e in
      let comma = mark-sound 44 rest next (omega arith) c in
      let left = one ++ blanks rest in
      let spelled : bs ≡ (left ++ 44 ∷ h.0) ++ 125 ∷ r = whole ∙ ap (λ l. one ++ l) (comma ∙ ap (λ n. blanks rest ++ 44 ∷ n) h.2) ∙ simp append_assoc in
      (left ++ 44 ∷ h.0, (left, label-blanks form one (blanks rest) label is (blanks-are rest), inr (h.0, refl, h.1)), spelled)
  by_comma None c e =
      let m = mapped {B = List Pair × List ℕ} (λ (q : List ℕ). ([], q)) (mark_in 125 rest) (labels, r) e in
      let none : [] ≡ labels = ap (λ (q : List Pair × List ℕ). q.0) m.2 in
      let end : m.0 ≡ r = ap (λ (q : List Pair × List ℕ). q.1) m.2 in
      let brace = mark-sound 125 rest m.0 (omega arith) m.1 in
      let left = one ++ blanks rest in
      let spelled : bs ≡ left ++ 125 ∷ r = whole ∙ ap (λ l. one ++ l) (brace ∙ ap (λ q. blanks rest ++ 125 ∷ q) end) ∙ simp append_assoc in
      (left, (left, label-blanks form one (blanks rest) label is (blanks-are rest), inl (sym none, refl)), spelled)

pub labels-sound : (form : Form) (k : ℕ) (bs : List ℕ) (labels : List Pair) (r : List ℕ) → labels_in form k bs ≡ Some (labels, r) → HasLabels form bs labels r
unfolding labels_in HasLabels
labels-sound form zero bs labels r e = absurd cc
labels-sound form (suc n) bs labels r e = by_brace (λ next ls q h. labels-sound form n next ls q h) (mark_in 125 bs) refl (label_in form bs) refl e
  where
    by_brace : ((next : List ℕ) (ls : List Pair) (q : List ℕ) → labels_in form n next ≡ Some (ls, q) → HasLabels form next ls q) →
        (o : Option (List ℕ)) → mark_in 125 bs ≡ o → (f : Option (Pair × List ℕ)) → label_in form bs ≡ f →
        closed_or o (label_and_more (λ next. labels_in form n next) f) ≡ Some (labels, r) → HasLabels form bs labels r
    by_brace sound (Some rest) m f l e =
        let p = pair [] labels rest r e in
        (blanks bs, subst (IsLabels form (blanks bs)) p.0 (blanks-are bs), mark-sound 125 bs rest (omega arith) m ∙ ap (λ q. blanks bs ++ 125 ∷ q) p.1)
    by_brace sound None m None l e = absurd cc
    by_brace sound None m (Some (label, rest)) l e =
        let one = label-sound form bs label rest l in
        let g = first-label label (after_label (λ next. labels_in form n next) rest (mark_in 44 rest)) labels r e in
        subst (λ (ls : List Pair). HasLabels form bs ls r) (sym g.2)
        (by_comma form (λ next. labels_in form n next) sound bs one.0 rest label one.1 one.2 g.0 r (mark_in 44 rest) refl g.1)

-- the end of a line
pub end-blanks : (bs : List ℕ) → is_end bs ≡ true → IsBlanks bs
end-blanks bs e =
    let none : bare bs ≡ [] = nil_from_length (bare bs) (eqb-true (length (bare bs)) 0 e) in
    ap (list_all is_blank) (apart bs ∙ ap (λ t. blanks bs ++ t) none ∙ append-nil (blanks bs)) ∙ blanks-are bs

word-starts : (w r : List ℕ) → IsWord w → Stops is_word_byte (w ++ r) → ⊥
word-starts [] r w s = omega (arith, w.0)
word-starts (x ∷ w) r word s = true≢false (sym (both (is_word_byte x) (list_all is_word_byte w) word.1).0 ∙ s)

-- blanks stand before a word that what ends a word is followed by
pub some-blanks : (bs w r : List ℕ) → Stops is_word_byte bs → IsWord w → bs ≡ blanks bs ++ (w ++ r) → blanks bs ≢ []
some-blanks bs w r s word e none = word-starts w r word (subst (Stops is_word_byte) (e ∙ ap (λ b. b ++ (w ++ r)) none) s)

stamp-word_sound : (bs : List ℕ) (o : Option (List ℕ × List ℕ)) (stamp : Option ℤ) → Stops is_word_byte bs → word_in bs ≡ o → last_word o ≡ Some stamp → IsLineEnd bs stamp
stamp-word_sound bs None stamp s w e = absurd cc
stamp-word_sound bs (Some (word, rest)) stamp s w e =
    let k = chosen (is_end rest) (option_map Some (millis word)) stamp e in
    let m = mapped Some (millis word) stamp k.1 in
    let found = word-sound bs word rest w in
    subst (IsLineEnd bs) m.2
    (blanks bs, word, rest, blanks-are bs, some-blanks bs word rest s found.1 found.0, end-blanks rest k.0, m.1, found.0)

pub stamp-sound : (bs : List ℕ) (stamp : Option ℤ) → Stops is_word_byte bs → stamp_in bs ≡ Some stamp → IsLineEnd bs stamp
unfolding stamp_in
stamp-sound bs stamp s e =
    ⊎_elim
    (λ (q : is_end bs ≡ true). (let here : Some None ≡ Some stamp = rw q at e in let none : None ≡ stamp = cc here in subst (IsLineEnd bs) none (end-blanks bs q)))
    (λ (q : is_end bs ≡ false). (let more : last_word (word_in bs) ≡ Some stamp = rw q at e in stamp-word_sound bs (word_in bs) stamp s refl more))
    (cases_Bool (is_end bs))
