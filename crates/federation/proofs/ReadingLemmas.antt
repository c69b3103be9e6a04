-- The text of rows reads as just these rows.
use Rattle.std.proofs.Common.{◌≡◌, ◌≢◌, inl, inr, ℕ, ℤ, ◌+◌, Bool, true, false, not, List, [], ◌∷◌, ◌++◌, length, refl, sym, ap, ◌∙◌, arith, subst, ⊎_elim, codes, if◌then◌else◌, unwrap_or, append_assoc, append-nil, Option, Some, None}
use Rattle.std.specs.Fmt.{signed_decimal}
use Rattle.std.specs.List.{AllByRecursion}
use Rattle.std.specs.Option.{option_map_or}
use Rattle.std.specs.Str.{IsUtf8, bytes_eq}
use Rattle.std.proofs.lemmas.Bool.{cases_Bool}
use Rattle.std.proofs.lemmas.List.Elements.{recursion_from_All}
use Rattle.label_set.specs.Bytes.{is_metric_name}
use Rattle.label_set.specs.SetText.{braces_if_any, escaped, in_braces, labels_after, metric_label, other_labels, set_text, text_with_name}
use Rattle.label_set.specs.Sets.{value_of}
use Rattle.label_set.specs.declared.forms.Form.TheVariants.{Quoted}
use Rattle.label_set.specs.declared.texts.Pair.{Pair}
use Rattle.label_set.proofs.SetLemmas.{IsSet-filter}
use Rattle.value_text.specs.Numbers.{is_in_range}
use Rattle.value_text.proofs.GrammarLemmas.{value-sound}
use Rattle.expo_lexer.specs.Tokens.{is_blank}
use Rattle.expo_reader.specs.Bodies.{lines_of}
use Rattle.expo_reader.specs.Forms.{names_differ}
use Rattle.expo_reader.specs.Grammar.{AreLines, IsBraced, IsLineEnd, IsMiddle, IsNameAndLabels, IsNamed, IsSample}
use Rattle.instant_view.specs.Selectors.{value_in}
use Rattle.instant_view.specs.declared.rows.ViewRow.{ViewRow}
use Rattle.federation.specs.Readings.{HasMetric, IsNamedText, ReadsBack, body_row, body_rows}
use Rattle.federation.specs.Texts.{row_line, rows_text}
use Rattle.federation.proofs.FeedLemmas.{NoFeed, cut_line, join, moment-none, text-none, value-none}
use Rattle.federation.proofs.LabelLemmas.{IsOther, between, differ, labels_are, others_are, quote_is, quoted_metric, value_utf8}
use Rattle.federation.proofs.NumberLemmas.{millis_printed}

some : (b : ℕ) (bs : List ℕ) → (b ∷ bs) ≢ []
some b bs e = (let n : length (b ∷ bs) ≡ 0 = ap length e in omega (arith, n))

-- the line of a row, without its line feed
abbrev line_of : ViewRow → List ℕ
line_of row = set_text row.series ++ 32 ∷ (row.value ++ 32 ∷ signed_decimal row.moment)

lines_more : (row : ViewRow) (rows : List ViewRow) → rows_text (row ∷ rows) ≡ line_of row ++ 10 ∷ rows_text rows
unfolding row_line
lines_more row rows = simp append_assoc

-- the value of a name that isn't empty is there
is_there : (o : Option (List ℕ)) → unwrap_or o [] ≢ [] → o ≡ Some (unwrap_or o [])
is_there None h = absurd (h refl)
is_there (Some name) h = refl

-- what follows the value
end_is : (moment : ℤ) → is_in_range moment ≡ true → IsLineEnd (32 ∷ signed_decimal moment) (Some moment)
unfolding is_blank
end_is moment r = (
  32 ∷ [],
  signed_decimal moment,
  [],
  refl,
  some 32 [],
  refl,
  millis_printed moment r,
  ap (λ (s : List ℕ). 32 ∷ s) (sym (append-nil (signed_decimal moment))),
)

-- labels behind a metric name
middle_is : (ps : List Pair) → AllByRecursion IsOther ps → names_differ ps ≡ true →
    IsMiddle Quoted (braces_if_any (labels_after ps) ++ 32 ∷ []) (braces_if_any (labels_after ps)) ps
unfolding is_blank
middle_is [] h d = inl (refl, some 32 [], refl, refl)
middle_is (p ∷ ps) h d = inr ([], between (p ∷ ps), 32 ∷ [], refl, refl, labels_are (p ∷ ps) h, d, refl, refl)

-- labels behind a metric name in quotes
inside_is : (name : List ℕ) (ps : List Pair) → name ≢ [] → IsUtf8 name → AllByRecursion IsOther ps →
    IsNameAndLabels ((34 ∷ (escaped name ++ 34 ∷ [])) ++ labels_after ps) name ps
inside_is name [] h u o = ([], 34 ∷ (escaped name ++ 34 ∷ []), [], refl, refl, quoted_metric name h, quote_is name u, inl (refl, refl))
inside_is name (p ∷ ps) h u o =
    ([], 34 ∷ (escaped name ++ 34 ∷ []), [], refl, refl, quoted_metric name h, quote_is name u, inr (between (p ∷ ps), refl, labels_are (p ∷ ps) o))

module _ (row : ViewRow) (h : HasMetric row) where
  abbrev name : List ℕ
  name = value_in row.series metric_label

  abbrev labels : List Pair
  labels = other_labels row.series

  there : value_of row.series metric_label ≡ Some name
  there = is_there (value_of row.series metric_label) h.metric

  texts : AllByRecursion IsNamedText row.series
  texts = recursion_from_All IsNamedText row.series h.texts

  others : AllByRecursion IsOther labels
  others = others_are row.series texts

  apart : names_differ labels ≡ true
  apart = differ labels (IsSet-filter (λ (p : Pair). not (bytes_eq p.name metric_label)) row.series h.set)

  name_utf8 : IsUtf8 name
  name_utf8 = value_utf8 row.series metric_label name texts there

  text_is : set_text row.series ≡ text_with_name name (labels_after labels)
  text_is = ap (λ (o : Option (List ℕ)). option_map_or (λ (n : List ℕ). text_with_name n (labels_after labels)) o (in_braces (labels_after labels))) there

  line_none : NoFeed (line_of row)
  line_none =
      join (set_text row.series) (32 ∷ (row.value ++ 32 ∷ signed_decimal row.moment)) (subst NoFeed (sym text_is) (text-none name labels))
      (join row.value (32 ∷ signed_decimal row.moment) (value-none row.value h.value) (moment-none row.moment h.moment))

  abbrev after : List ℕ
  after = 32 ∷ signed_decimal row.moment

  abbrev quoted : List ℕ
  quoted = codes "{\"" ++ (escaped name ++ (codes "\"" ++ (labels_after labels ++ codes "}")))

  abbrev chosen : Bool → List ℕ
  chosen b = if b then name ++ braces_if_any (labels_after labels) else quoted

  named : (number : ℕ) → is_metric_name name ≡ true → IsNamed Quoted number (line_of row) (body_row number row)
  named number q =
      let braces = braces_if_any (labels_after labels) in
      let raw : set_text row.series ≡ name ++ braces = text_is ∙ ap chosen q in
      let whole : line_of row ≡ name ++ ((braces ++ 32 ∷ []) ++ (row.value ++ after)) =
      ap (λ (s : List ℕ). s ++ 32 ∷ (row.value ++ after)) raw ∙ simp append_assoc in (
        [],
        braces ++ 32 ∷ [],
        braces,
        after,
        refl,
        refl,
        q,
        middle_is labels others apart,
        raw,
        value-sound row.value h.value,
        end_is row.moment h.moment,
        whole,
      )

  braced : (number : ℕ) → is_metric_name name ≡ false → IsBraced number (line_of row) (body_row number row)
  unfolding is_blank
  braced number q =
      let inside = (34 ∷ (escaped name ++ 34 ∷ [])) ++ labels_after labels in
      let spelled : quoted ≡ 123 ∷ (inside ++ 125 ∷ []) = simp append_assoc in
      let raw : set_text row.series ≡ 123 ∷ (inside ++ 125 ∷ []) = text_is ∙ ap chosen q ∙ spelled in (
        [],
        inside,
        32 ∷ [],
        after,
        refl,
        refl,
        refl,
        inside_is name labels h.metric name_utf8 others,
        apart,
        raw,
        value-sound row.value h.value,
        end_is row.moment h.moment,
        refl,
      )

  sample_is : (number : ℕ) → IsSample Quoted number (line_of row) (body_row number row)
  sample_is number =
      ⊎_elim (λ (q : is_metric_name name ≡ true). inl (named number q)) (λ (q : is_metric_name name ≡ false). inr (refl, braced number q))
      (cases_Bool (is_metric_name name))

lines_are : (number : ℕ) (rows : List ViewRow) → AllByRecursion HasMetric rows → AreLines Quoted number (lines_of (rows_text rows)) (body_rows number rows)
unfolding lines_of
lines_are number [] h = refl
lines_are number (row ∷ rows) h =
    let lines : lines_of (rows_text (row ∷ rows)) ≡ line_of row ∷ lines_of (rows_text rows) =
    ap lines_of (lines_more row rows) ∙ cut_line (line_of row) (rows_text rows) (line_none row h.0) in
    subst (λ (ls : List (List ℕ)). AreLines Quoted number ls (body_rows number (row ∷ rows))) (sym lines)
    (inr (body_row number row, body_rows (number + 1) rows, sample_is row h.0 number, refl, lines_are (number + 1) rows h.1))

pub reads_back : ReadsBack
reads_back = λ rows h. lines_are 1 rows (recursion_from_All HasMetric rows h)
