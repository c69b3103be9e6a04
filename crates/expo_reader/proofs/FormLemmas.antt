-- What is read in a body without names in quotes is read alike where such may stand.
use Rattle.std.proofs.Common.{◌≡◌, ℕ, zero, suc, ◌+◌, Bool, true, false, List, [], ◌∷◌, length, refl, ap, ap₂, ◌∙◌, Option, Some, None, Result, Ok, Err, if◌then◌else◌}
use Rattle.label_set.specs.Bytes.{is_metric_name}
use Rattle.label_set.specs.declared.forms.Form.{Form}
use Rattle.label_set.specs.declared.forms.Form.TheVariants.{Plain, Quoted}
use Rattle.label_set.specs.declared.texts.Pair.{Pair}
use Rattle.expo_reader.specs.Bodies.{is_skipped, line_reading, line_then, lines_of, reading, rows_from, sample_or_fault}
use Rattle.expo_reader.specs.Forms.{after_label, after_name, braced_row, closed_or, label_and_more, label_in, labelled_row, labels_in, named_label, named_row, sample_in, with_first}
use Rattle.expo_reader.specs.Laws.{PlainReadsQuoted}
use Rattle.expo_reader.specs.Names.{or_else, bare_name, quoted_name, braced_name, name_in}
use Rattle.expo_reader.specs.Texts.{bare, mark_in, word_in}
use Rattle.expo_reader.specs.declared.rows.BodyRow.{BodyRow}
use Rattle.expo_reader.proofs.RowLemmas.{chosen}

-- a name that stands bare, and a line that begins with its name, are read in each form
pub bare-name : (form : Form) (bs : List ℕ) (p : List ℕ × List ℕ) → bare_name bs ≡ Some p → name_in form bs ≡ Some p
unfolding name_in
bare-name Plain bs p e = e
bare-name Quoted bs p e = ap (λ o. or_else o (quoted_name bs)) e

pub named-sample : (form : Form) (number : ℕ) (line : List ℕ) (row : BodyRow) → named_row form number line (word_in line) ≡ Some row → sample_in form number line ≡ Some row
unfolding sample_in
named-sample Plain number line row e = e
named-sample Quoted number line row e = ap (λ o. or_else o (braced_row number line (braced_name line))) e

name-lift : (form : Form) (bs : List ℕ) (p : List ℕ × List ℕ) → name_in form bs ≡ Some p → name_in Quoted bs ≡ Some p
unfolding name_in
name-lift Plain bs p e = bare-name Quoted bs p e
name-lift Quoted bs p e = e

module _ (form : Form) (bs : List ℕ) (p : Pair × List ℕ) where
  by_name : (o : Option (List ℕ × List ℕ)) → name_in form bs ≡ o → named_label o ≡ Some p → label_in Quoted bs ≡ Some p
  unfolding label_in
  by_name None n e = absurd cc
  by_name (Some q) n e = ap named_label (name-lift form bs q n) ∙ e

  label-lift : label_in form bs ≡ Some p → label_in Quoted bs ≡ Some p
  unfolding label_in
  label-lift e = by_name (name_in form bs) refl e

-- labels
module _ (less more : List ℕ → Option (List Pair × List ℕ)) (lift : (next : List ℕ) (p : List Pair × List ℕ) → less next ≡ Some p → more next ≡ Some p) where
  after-lift : (rest : List ℕ) (o : Option (List ℕ)) (p : List Pair × List ℕ) → after_label less rest o ≡ Some p → after_label more rest o ≡ Some p
  after-lift rest (Some next) p e = lift next p e
  after-lift rest None p e = e

first-lift : (label : Pair) (x y : Option (List Pair × List ℕ)) → ((p : List Pair × List ℕ) → x ≡ Some p → y ≡ Some p) →
    (p : List Pair × List ℕ) → with_first label x ≡ Some p → with_first label y ≡ Some p
first-lift label None y lift p e = absurd cc
first-lift label (Some q) y lift p e = ap (with_first label) (lift q refl) ∙ e

module _ (form : Form) where
  pub labels-lift : (k : ℕ) (bs : List ℕ) (p : List Pair × List ℕ) → labels_in form k bs ≡ Some p → labels_in Quoted k bs ≡ Some p
  unfolding labels_in
  labels-lift zero bs p e = absurd cc
  labels-lift (suc n) bs p e = step (λ next q h. labels-lift n next q h) (mark_in 125 bs) (label_in form bs) refl e
    where
      step : ((next : List ℕ) (q : List Pair × List ℕ) → labels_in form n next ≡ Some q → labels_in Quoted n next ≡ Some q) →
          (o : Option (List ℕ)) (f : Option (Pair × List ℕ)) → label_in form bs ≡ f →
          closed_or o (label_and_more (λ next. labels_in form n next) f) ≡ Some p →
          closed_or o (label_and_more (λ next. labels_in Quoted n next) (label_in Quoted bs)) ≡ Some p
      step lift (Some rest) f l e = e
      step lift None None l e = absurd cc
      step lift None (Some (label, rest)) l e =
          ap (label_and_more (λ next. labels_in Quoted n next)) (label-lift form bs (label, rest) l)
          ∙ first-lift label (after_label (λ next. labels_in form n next) rest (mark_in 44 rest)) (after_label (λ next. labels_in Quoted n next) rest (mark_in 44 rest))
          (λ q h. after-lift (λ next. labels_in form n next) (λ next. labels_in Quoted n next) lift rest (mark_in 44 rest) q h) p e

-- lines
module _ (number : ℕ) (line : List ℕ) (row : BodyRow) where
  by_labels : (name : List ℕ) (x y : Option (List Pair × List ℕ)) → ((p : List Pair × List ℕ) → x ≡ Some p → y ≡ Some p) →
      labelled_row number line name x ≡ Some row → labelled_row number line name y ≡ Some row
  by_labels name None y lift e = absurd cc
  by_labels name (Some q) y lift e = ap (labelled_row number line name) (lift q refl) ∙ e

  by_braces : (name rest : List ℕ) (o : Option (List ℕ)) → after_name Plain number line (name, rest) o ≡ Some row → after_name Quoted number line (name, rest) o ≡ Some row
  by_braces name rest None e = e
  by_braces name rest (Some inside) e =
      by_labels name (labels_in Plain (length inside + 1) inside) (labels_in Quoted (length inside + 1) inside) (λ p h. labels-lift Plain (length inside + 1) inside p h) e

  by_word : (o : Option (List ℕ × List ℕ)) → named_row Plain number line o ≡ Some row → named_row Quoted number line o ≡ Some row
  by_word None e = absurd cc
  by_word (Some (name, rest)) e =
      let k = chosen (is_metric_name name) (after_name Plain number line (name, rest) (mark_in 123 rest)) row e in
      rw k.0 (by_braces name rest (mark_in 123 rest) k.1)

pub sample-lift : (form : Form) (number : ℕ) (line : List ℕ) (row : BodyRow) → sample_in form number line ≡ Some row → sample_in Quoted number line ≡ Some row
unfolding sample_in
sample-lift Plain number line row e = named-sample Quoted number line row (by_word number line row (word_in line) e)
sample-lift Quoted number line row e = e

module _ (number : ℕ) (line : List ℕ) (o : Option BodyRow) where
  by_sample : (s : Option BodyRow) → sample_in Plain number (bare line) ≡ s → sample_or_fault number s ≡ Ok o → sample_or_fault number (sample_in Quoted number (bare line)) ≡ Ok o
  by_sample None s e = absurd cc
  by_sample (Some row) s e = ap (sample_or_fault number) (sample-lift Plain number (bare line) row s) ∙ e

  by_skip : (b : Bool) → (if b then Ok None else sample_or_fault number (sample_in Plain number (bare line))) ≡ Ok o →
      (if b then Ok None else sample_or_fault number (sample_in Quoted number (bare line))) ≡ Ok o
  by_skip true e = e
  by_skip false e = by_sample (sample_in Plain number (bare line)) refl e

  line-lift : line_reading Plain number line ≡ Ok o → line_reading Quoted number line ≡ Ok o
  unfolding line_reading
  line-lift e = by_skip (is_skipped line) e

rows-lift : (lines : List (List ℕ)) (number : ℕ) (rows : List BodyRow) → rows_from Plain number lines ≡ Ok rows → rows_from Quoted number lines ≡ Ok rows
unfolding rows_from
rows-lift [] number rows e = e
rows-lift (line ∷ lines) number rows e = step (λ more h. rows-lift lines (number + 1) more h) (line_reading Plain number line) refl (rows_from Plain (number + 1) lines) refl e
  where
    step : ((more : List BodyRow) → rows_from Plain (number + 1) lines ≡ Ok more → rows_from Quoted (number + 1) lines ≡ Ok more) →
        (x : Result (Option BodyRow) ℕ) → line_reading Plain number line ≡ x → (y : Result (List BodyRow) ℕ) → rows_from Plain (number + 1) lines ≡ y →
        line_then x y ≡ Ok rows → line_then (line_reading Quoted number line) (rows_from Quoted (number + 1) lines) ≡ Ok rows
    step lift (Err n) s y t e = absurd cc
    step lift (Ok o) s (Err n) t e = absurd cc
    step lift (Ok o) s (Ok more) t e = ap₂ line_then (line-lift number line o s) (lift more t) ∙ e

pub plain_reads_quoted : PlainReadsQuoted
unfolding reading
plain_reads_quoted = λ bytes rows e. rows-lift (lines_of bytes) 1 rows e
