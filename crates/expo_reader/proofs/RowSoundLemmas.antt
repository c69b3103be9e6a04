-- A row that is read is written in the format.
use Rattle.std.proofs.Common.{◌≡◌, ℕ, ℤ, ◌+◌, ◌-◌, true, false, List, [], ◌∷◌, ◌++◌, length, take, drop, refl, sym, ap, ap₂, ◌∙◌, arith, ◌==◌, Option, Some, None, subst, slice_index, ⊎_elim, inl, inr, append_assoc, append-nil, length-append, option_map, option_and_then}
use Rattle.std.proofs.Math.Seq.{take-append_seam}
use Rattle.std.proofs.lemmas.Bool.{eqb-true, cases_Bool}
use Rattle.label_set.specs.Bytes.{is_metric_name}
use Rattle.label_set.specs.declared.texts.Pair.{Pair}
use Rattle.value_text.specs.Values.{is_value}
use Rattle.expo_lexer.specs.Tokens.{is_blank, is_word_byte}
use Rattle.expo_reader.specs.declared.rows.BodyRow.{BodyRow}
use Rattle.expo_reader.specs.Bodies.{is_skipped}
use Rattle.expo_reader.specs.Texts.{bare, is_end, word_in, mark_in}
use Rattle.label_set.specs.declared.forms.Form.{Form}
use Rattle.label_set.specs.declared.forms.Form.TheVariants.{Plain, Quoted}
use Rattle.expo_reader.specs.Forms.{labels_in, labels_after, names_differ, stamp_in, value_in, valued, sample_in, named_row, braced_row, after_name, row_of, labelled_row, differing_row, after_label}
use Rattle.expo_reader.specs.Names.{passing, quote_in, is_quoted_metric, braced_name}
use Rattle.expo_reader.specs.Grammar.{IsBraced, IsLineEnd, IsMiddle, IsNameAndLabels, IsNamed, IsQuote, IsSample, IsSkipped}
use Rattle.expo_reader.proofs.FrontLemmas.{Stops, stops-drop}
use Rattle.expo_reader.proofs.RowLemmas.{chosen, mapped, passing-sound, either}
use Rattle.expo_reader.proofs.WordLemmas.{IsWord}
use Rattle.value_text.proofs.GrammarLemmas.{value-sound as value-written}
use Rattle.expo_reader.proofs.SoundLemmas.{HasLabels, apart, blanks, blanks-are, end-blanks, labels-sound, mark-sound, quote-sound, some-blanks, stamp-sound, word-sound}

-- the value and the end behind it
unfoldable pub EndsWith : List ℕ → List ℕ → Option ℤ → Type 0
EndsWith bs value stamp = (after : List ℕ) × (is_value value ≡ true) × IsLineEnd after stamp × (bs ≡ blanks bs ++ (value ++ after)) × IsWord value

value-word_sound : (bs : List ℕ) (o : Option (List ℕ × List ℕ)) (value : List ℕ) (stamp : Option ℤ) → word_in bs ≡ o → valued o ≡ Some (value, stamp) → EndsWith bs value stamp
unfolding EndsWith
value-word_sound bs None value stamp w e = absurd cc
value-word_sound bs (Some (word, rest)) value stamp w e =
    let k = chosen (is_value word) (option_map {U = List ℕ × Option ℤ} (λ (s : Option ℤ). (word, s)) (stamp_in rest)) (value, stamp) e in
    let m = mapped {B = List ℕ × Option ℤ} (λ (s : Option ℤ). (word, s)) (stamp_in rest) (value, stamp) k.1 in
    let same : word ≡ value = ap (λ (p : List ℕ × Option ℤ). p.0) m.2 in
    let stamped : m.0 ≡ stamp = ap (λ (p : List ℕ × Option ℤ). p.1) m.2 in
    let found = word-sound bs word rest w in
    (rest, ap is_value (sym same) ∙ k.0, subst (IsLineEnd rest) stamped (stamp-sound rest m.0 found.2 m.1), found.0 ∙ ap (λ v. blanks bs ++ (v ++ rest)) same, subst IsWord same found.1)

pub value-sound : (bs value : List ℕ) (stamp : Option ℤ) → value_in bs ≡ Some (value, stamp) → EndsWith bs value stamp
unfolding value_in
value-sound bs value stamp e = value-word_sound bs (word_in bs) value stamp refl e

-- the row of these parts
made-row : ℕ → List ℕ → List ℕ → List Pair → List ℕ → Option ℤ → BodyRow
made-row number raw name labels value stamp = record { line = number; raw = raw; name = name; labels = labels; value = value; stamp = stamp }

row-parts : (number : ℕ) (raw name : List ℕ) (labels : List Pair) (o : Option (List ℕ × Option ℤ)) (row : BodyRow) → row_of number raw name labels o ≡ Some row →
    (value : List ℕ) × (stamp : Option ℤ) × (o ≡ Some (value, stamp)) × (made-row number raw name labels value stamp ≡ row)
unfolding made-row
row-parts number raw name labels None row e = absurd cc
row-parts number raw name labels (Some (value, stamp)) row e = (value, stamp, refl, cc)

no-blanks : (t : List ℕ) → Stops is_blank t → blanks t ≡ []
no-blanks [] s = refl
no-blanks (x ∷ t) s = rw s refl

-- the row of labels that differ, and what follows them
module _ (number : ℕ) (line name raw_text tail : List ℕ) (labels : List Pair) (row : BodyRow) (whole : line ≡ raw_text ++ tail) where
  differing-sound : differing_row number line name labels tail ≡ Some row →
      (value : List ℕ) × (stamp : Option ℤ) × (names_differ labels ≡ true) × (made-row number raw_text name labels value stamp ≡ row) × EndsWith tail value stamp
  differing-sound e =
      let raw = take (length line - length tail) line in
      let d = chosen (names_differ labels) (row_of number raw name labels (value_in tail)) row e in
      let k = row-parts number raw name labels (value_in tail) row d.1 in
      let len : length line - length tail ≡ length raw_text = omega (arith, ap length whole, length-append raw_text tail) in
      let raw_is : raw ≡ raw_text = ap₂ take len whole ∙ take-append_seam raw_text tail in
      (k.0, k.1, d.0, ap (λ (t : List ℕ). made-row number t name labels k.0 k.1) (sym raw_is) ∙ k.3, value-sound tail k.0 k.1 k.2)

module _ (form : Form) (number : ℕ) (line name rest : List ℕ) (row : BodyRow) (text_is : bare line ≡ name ++ rest) (named : is_metric_name name ≡ true) (stops : Stops is_word_byte rest) where
  spelled : line ≡ blanks line ++ (name ++ rest)
  spelled = apart line ∙ ap (λ t. blanks line ++ t) text_is

  no-labels : row_of number name name [] (value_in rest) ≡ Some row → IsNamed form number line row
  unfolding made-row EndsWith
  no-labels e =
      let k = row-parts number name name [] (value_in rest) row e in
      let end = value-sound rest k.0 k.1 k.2 in
      let middle : IsMiddle form (blanks rest) [] [] = inl (blanks-are rest, some-blanks rest k.0 end.0 stops end.4 end.3, refl, refl) in
      subst (IsNamed form number line) k.3
      (blanks line, blanks rest, [], end.0, refl, blanks-are line, named, middle, sym (append-nil name), value-written k.0 end.1, end.2, spelled ∙ ap (λ r. blanks line ++ (name ++ r)) end.3)

  with-labels : (inside : List ℕ) → mark_in 123 rest ≡ Some inside → (labels : List Pair) (tail : List ℕ) → HasLabels form inside labels tail →
      differing_row number (bare line) name labels tail ≡ Some row → IsNamed form number line row
  unfolding made-row EndsWith HasLabels
  with-labels inside m labels tail h e =
      let mark = mark-sound 123 rest inside (omega arith) m in
      let braces = blanks rest ++ 123 ∷ (h.0 ++ 125 ∷ []) in
      let whole : bare line ≡ (name ++ braces) ++ tail =
      text_is ∙ ap (λ r. name ++ r) (mark ∙ ap (λ i. blanks rest ++ 123 ∷ i) h.2) ∙ simp append_assoc in
      let k = differing-sound number (bare line) name (name ++ braces) tail labels row whole e in
      let end = k.4 in
      let middle : IsMiddle form (braces ++ blanks tail) braces labels = inr (blanks rest, h.0, blanks tail, blanks-are rest, blanks-are tail, h.1, k.2, refl, refl) in
      let written : line ≡ blanks line ++ (name ++ ((braces ++ blanks tail) ++ (k.0 ++ end.0))) =
      apart line ∙ ap (λ t. blanks line ++ t) (whole ∙ ap (λ t. (name ++ braces) ++ t) end.3) ∙ simp append_assoc in
      subst (IsNamed form number line) k.3
      (blanks line, braces ++ blanks tail, braces, end.0, refl, blanks-are line, named, middle, refl, value-written k.0 end.1, end.2, written)

  by_labels : (inside : List ℕ) → mark_in 123 rest ≡ Some inside → (o : Option (List Pair × List ℕ)) → labels_in form (length inside + 1) inside ≡ o →
      labelled_row number (bare line) name o ≡ Some row → IsNamed form number line row
  by_labels inside m None l e = absurd cc
  by_labels inside m (Some (labels, tail)) l e = with-labels inside m labels tail (labels-sound form (length inside + 1) inside labels tail l) e

  by_name : (o : Option (List ℕ)) → mark_in 123 rest ≡ o → after_name form number (bare line) (name, rest) o ≡ Some row → IsNamed form number line row
  by_name None m e = no-labels e
  by_name (Some inside) m e = by_labels inside m (labels_in form (length inside + 1) inside) refl e

bare-stops : (line : List ℕ) → blanks (bare line) ≡ []
bare-stops line = no-blanks (bare line) (stops-drop is_blank line)

by_line : (form : Form) (number : ℕ) (line : List ℕ) (row : BodyRow) (o : Option (List ℕ × List ℕ)) → word_in (bare line) ≡ o → named_row form number (bare line) o ≡ Some row → IsNamed form number line row
by_line form number line row None w e = absurd cc
by_line form number line row (Some (name, rest)) w e =
    let k = chosen (is_metric_name name) (after_name form number (bare line) (name, rest) (mark_in 123 rest)) row e in
    let found = word-sound (bare line) name rest w in
    let text_is : bare line ≡ name ++ rest = found.0 ∙ ap (λ b. b ++ (name ++ rest)) (bare-stops line) in
    by_name form number line name rest row text_is k.0 found.2 (mark_in 123 rest) refl k.1

-- a metric name in braces, and what stands there behind it
pub braced-sound : (line name rest : List ℕ) → braced_name line ≡ Some (name, rest) →
    (inside : List ℕ) × (mark_in 123 line ≡ Some inside) × (is_quoted_metric name ≡ true) × (quote_in inside ≡ Some (name, rest))
unfolding braced_name
braced-sound line name rest e = by_mark (mark_in 123 line) refl e
  where
    by_mark : (o : Option (List ℕ)) → mark_in 123 line ≡ o → option_and_then (λ (inside : List ℕ). passing is_quoted_metric (quote_in inside)) o ≡ Some (name, rest) →
        (inside : List ℕ) × (mark_in 123 line ≡ Some inside) × (is_quoted_metric name ≡ true) × (quote_in inside ≡ Some (name, rest))
    by_mark None m e = absurd cc
    by_mark (Some inside) m e = let k = passing-sound is_quoted_metric (quote_in inside) name rest e in (inside, m, k.0, k.1)

module _ (inside name rest : List ℕ) (some : is_quoted_metric name ≡ true) (quote : List ℕ) (is : IsQuote quote name) (whole : inside ≡ blanks inside ++ (quote ++ rest))
    (labels : List Pair) (tail : List ℕ) where
  after-sound : labels_after rest ≡ Some (labels, tail) → (inner : List ℕ) × IsNameAndLabels inner name labels × (inside ≡ inner ++ 125 ∷ tail)
  unfolding HasLabels
  after-sound e = by_comma_or_end (mark_in 44 rest) refl e
    where
      by_comma_or_end : (o : Option (List ℕ)) → mark_in 44 rest ≡ o → after_label (λ next. labels_in Quoted (length next + 1) next) rest o ≡ Some (labels, tail) →
          (inner : List ℕ) × IsNameAndLabels inner name labels × (inside ≡ inner ++ 125 ∷ tail)
      by_comma_or_end (Some next) c e =
          let h = labels-sound Quoted (length next + 1) next labels tail e in
          let comma = mark-sound 44 rest next (omega arith) c in
          let inner = blanks inside ++ (quote ++ (blanks rest ++ 44 ∷ h.0)) in
          let spelled : inside ≡ inner ++ 125 ∷ tail =
          whole ∙ ap (λ l. blanks inside ++ (quote ++ l)) (comma ∙ ap (λ n. blanks rest ++ 44 ∷ n) h.2) ∙ simp append_assoc in
          (inner, (blanks inside, quote, blanks rest, blanks-are inside, blanks-are rest, some, is, inr (h.0, refl, h.1)), spelled)
      by_comma_or_end None c e =
          let m = mapped {B = List Pair × List ℕ} (λ (q : List ℕ). ([], q)) (mark_in 125 rest) (labels, tail) e in
          let none : [] ≡ labels = ap (λ (q : List Pair × List ℕ). q.0) m.2 in
          let end : m.0 ≡ tail = ap (λ (q : List Pair × List ℕ). q.1) m.2 in
          let brace = mark-sound 125 rest m.0 (omega arith) m.1 in
          let inner = blanks inside ++ (quote ++ blanks rest) in
          let spelled : inside ≡ inner ++ 125 ∷ tail =
          whole ∙ ap (λ l. blanks inside ++ (quote ++ l)) (brace ∙ ap (λ q. blanks rest ++ 125 ∷ q) end) ∙ simp append_assoc in
          (inner, (blanks inside, quote, blanks rest, blanks-are inside, blanks-are rest, some, is, inl (sym none, refl)), spelled)

module _ (number : ℕ) (line : List ℕ) (row : BodyRow) where
  by_inner : (name inside inner tail : List ℕ) (labels : List Pair) → mark_in 123 (bare line) ≡ Some inside → IsNameAndLabels inner name labels → inside ≡ inner ++ 125 ∷ tail →
      differing_row number (bare line) name labels tail ≡ Some row → IsBraced number line row
  unfolding made-row EndsWith
  by_inner name inside inner tail labels m is whole e =
      let mark : bare line ≡ 123 ∷ inside = mark-sound 123 (bare line) inside (omega arith) m ∙ ap (λ b. b ++ 123 ∷ inside) (bare-stops line) in
      let raw = 123 ∷ (inner ++ 125 ∷ []) in
      let text : bare line ≡ raw ++ tail = mark ∙ ap (λ i. 123 ∷ i) whole ∙ simp append_assoc in
      let k = differing-sound number (bare line) name raw tail labels row text e in
      let end = k.4 in
      let written : line ≡ blanks line ++ (raw ++ (blanks tail ++ (k.0 ++ end.0))) = apart line ∙ ap (λ t. blanks line ++ t) (text ∙ ap (λ t. raw ++ t) end.3) in
      subst (IsBraced number line) k.3
      (blanks line, inner, blanks tail, end.0, refl, blanks-are line, blanks-are tail, is, k.2, refl, value-written k.0 end.1, end.2, written)

  by_after : (name rest : List ℕ) → braced_name (bare line) ≡ Some (name, rest) → (o : Option (List Pair × List ℕ)) → labels_after rest ≡ o → labelled_row number (bare line) name o ≡ Some row → IsBraced number line row
  by_after name rest b None l e = absurd cc
  by_after name rest b (Some (labels, tail)) l e =
      let found = braced-sound (bare line) name rest b in
      let quote = quote-sound found.0 name rest found.3 in
      let after = after-sound found.0 name rest found.2 quote.0 quote.1 quote.2 labels tail l in
      by_inner name found.0 after.0 tail labels found.1 after.1 after.2 e

  by_braces : (o : Option (List ℕ × List ℕ)) → braced_name (bare line) ≡ o → braced_row number (bare line) o ≡ Some row → IsBraced number line row
  by_braces None b e = absurd cc
  by_braces (Some (name, rest)) b e = by_after name rest b (labels_after rest) refl e

-- a sample line
pub sample-sound : (form : Form) (number : ℕ) (line : List ℕ) (row : BodyRow) → sample_in form number (bare line) ≡ Some row → IsSample form number line row
unfolding sample_in
sample-sound Plain number line row e = inl (by_line Plain number line row (word_in (bare line)) refl e)
sample-sound Quoted number line row e =
    ⊎_elim
    (λ (n : named_row Quoted number (bare line) (word_in (bare line)) ≡ Some row). inl (by_line Quoted number line row (word_in (bare line)) refl n))
    (λ (b : braced_row number (bare line) (braced_name (bare line)) ≡ Some row). inr (refl, by_braces number line row (braced_name (bare line)) refl b))
    (either (named_row Quoted number (bare line) (word_in (bare line))) (braced_row number (bare line) (braced_name (bare line))) row e)

-- a line that is skipped
pub skipped-sound : (line : List ℕ) → is_skipped line ≡ true → IsSkipped line
unfolding is_skipped
skipped-sound line e =
    ⊎_elim
    (λ (q : is_end line ≡ true). inl (end-blanks line q))
    (λ (q : is_end line ≡ false). (let hash : (slice_index (bare line) 0 == 35) ≡ true = rw q at e in
    inr (blanks line, drop 1 (bare line), blanks-are line, apart line ∙ ap (λ t. blanks line ++ t) (hash-first (bare line) hash))))
    (cases_Bool (is_end line))
  where
    hash-first : (t : List ℕ) → (slice_index t 0 == 35) ≡ true → t ≡ 35 ∷ drop 1 t
    hash-first [] h = absurd cc
    hash-first (x ∷ t) h = ap (λ y. y ∷ t) (eqb-true x 35 h)
