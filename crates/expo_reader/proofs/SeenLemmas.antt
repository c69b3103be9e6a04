-- The name and the labels of a row are what its line says again.
use Rattle.std.proofs.Common.{◌≡◌, ℕ, ℤ, ◌+◌, ◌-◌, List, [], length, take, Option, Some, None, refl, sym, ap, ap₂, ◌∙◌, ⊎_elim}
use Rattle.label_set.specs.Bytes.{is_metric_name}
use Rattle.label_set.specs.declared.forms.Form.{Form}
use Rattle.label_set.specs.declared.forms.Form.TheVariants.{Quoted}
use Rattle.label_set.specs.declared.texts.Pair.{Pair}
use Rattle.expo_reader.specs.Forms.{after_name, braced_row, labelled_row, labels_after, labels_in, named_row, names_differ, row_of, sample_in, value_in}
use Rattle.expo_reader.specs.Names.{braced_name}
use Rattle.expo_reader.specs.Spans.{name_at, labels_at, made_row, spanned_row, row_at, word_of, name_of, labels_behind, inside_labels, braced_labels, found_labels}
use Rattle.expo_reader.specs.Texts.{mark_in, word_in}
use Rattle.expo_reader.specs.declared.rows.BodyRow.{BodyRow}
use Rattle.expo_reader.specs.declared.spans.LineSpan.{LineSpan}
use Rattle.expo_reader.proofs.CompleteLemmas.{word-no_brace}
use Rattle.expo_reader.proofs.FormLemmas.{sample-lift}
use Rattle.expo_reader.proofs.RowLemmas.{chosen, either}

-- name and labels of a row are what its line says
same-parts : (number : ℕ) (raw name : List ℕ) (labels : List Pair) (o : Option (List ℕ × Option ℤ)) (row : BodyRow) → row_of number raw name labels o ≡ Some row → (name ≡ row.name) × (labels ≡ row.labels)
same-parts number raw name labels None row e = absurd cc
same-parts number raw name labels (Some (value, stamp)) row e =
    let made : made_row number raw name labels (value, stamp) ≡ row = cc in
    (ap (λ (x : BodyRow). x.name) made, ap (λ (x : BodyRow). x.labels) made)

module _ (number : ℕ) (line : List ℕ) (row : BodyRow) where
  by_labels : (name : List ℕ) (o : Option (List Pair × List ℕ)) → labelled_row number line name o ≡ Some row → (name ≡ row.name) × (found_labels o ≡ row.labels)
  by_labels name None e = absurd cc
  by_labels name (Some (labels, tail)) e =
      let d = chosen (names_differ labels) (row_of number (take (length line - length tail) line) name labels (value_in tail)) row e in
      same-parts number (take (length line - length tail) line) name labels (value_in tail) row d.1

  by_mark : (name rest : List ℕ) (o : Option (List ℕ)) → after_name Quoted number line (name, rest) o ≡ Some row → (name ≡ row.name) × (inside_labels o ≡ row.labels)
  by_mark name rest None e = same-parts number name name [] (value_in rest) row e
  by_mark name rest (Some inside) e = by_labels name (labels_in Quoted (length inside + 1) inside) e

  by_braces : (o : Option (List ℕ × List ℕ)) → braced_row number line o ≡ Some row → (word_of o ≡ row.name) × (braced_labels o ≡ row.labels)
  by_braces None e = absurd cc
  by_braces (Some (name, rest)) e = by_labels name (labels_after rest) e

  by_word : (o b : Option (List ℕ × List ℕ)) → named_row Quoted number line o ≡ Some row → (name_of o b ≡ row.name) × (labels_behind o b ≡ row.labels)
  by_word None b e = absurd cc
  by_word (Some (name, rest)) b e = by_mark name rest (mark_in 123 rest) (chosen (is_metric_name name) (after_name Quoted number line (name, rest) (mark_in 123 rest)) row e).1

  by_front : (o b : Option (List ℕ × List ℕ)) → word_in line ≡ o → braced_name line ≡ b → braced_row number line b ≡ Some row → (name_of o b ≡ row.name) × (labels_behind o b ≡ row.labels)
  by_front None b w n e = by_braces b e
  by_front (Some (name, rest)) b w n e = absurd (let none : braced_row number line b ≡ None = ap (braced_row number line) (sym n ∙ word-no_brace line name rest w) in let h : None ≡ Some row = sym none ∙ e in cc)

  quoted-parts : sample_in Quoted number line ≡ Some row → (name_at line ≡ row.name) × (labels_at line ≡ row.labels)
  unfolding sample_in name_at labels_at
  quoted-parts e =
      ⊎_elim
      (λ (n : named_row Quoted number line (word_in line) ≡ Some row). by_word (word_in line) (braced_name line) n)
      (λ (b : braced_row number line (braced_name line) ≡ Some row). by_front (word_in line) (braced_name line) refl refl b)
      (either (named_row Quoted number line (word_in line)) (braced_row number line (braced_name line)) row e)

  pub sample-parts : (form : Form) → sample_in form number line ≡ Some row → (name_at line ≡ row.name) × (labels_at line ≡ row.labels)
  sample-parts form e = quoted-parts (sample-lift form number line row e)

-- so the row of a line is the one whose parts stand there
pub spanned-said : (form : Form) (number : ℕ) (line name : List ℕ) (labels : List Pair) (s : LineSpan) → sample_in form number line ≡ Some (spanned_row number line name labels s) →
    sample_in form number line ≡ Some (row_at number line s)
spanned-said form number line name labels s e =
    let parts = sample-parts number line (spanned_row number line name labels s) form e in
    e ∙ ap₂ (λ n ls. Some (spanned_row number line n ls s)) (sym parts.0) (sym parts.1)
