-- What is read of the text of rows, in the words of the grammar of bodies.
use Rattle.std.specs.Prelude.{◌≡◌, ◌≢◌, ℕ, ◌+◌, All, true, List, [], ◌∷◌, Some}
use Rattle.std.specs.Str.{IsUtf8}
use Rattle.label_set.specs.SetText.{metric_label, other_labels, set_text}
use Rattle.label_set.specs.Sets.{IsSet}
use Rattle.label_set.specs.declared.forms.Form.TheVariants.{Quoted}
use Rattle.label_set.specs.declared.texts.Pair.{Pair}
use Rattle.value_text.specs.Numbers.{is_in_range}
use Rattle.value_text.specs.Values.{is_value}
use Rattle.expo_reader.specs.Bodies.{lines_of}
use Rattle.expo_reader.specs.Grammar.{AreLines}
use Rattle.expo_reader.specs.declared.rows.BodyRow.{BodyRow}
use Rattle.instant_view.specs.Selectors.{value_in}
use Rattle.instant_view.specs.declared.rows.ViewRow.{ViewRow}
use Rattle.federation.specs.Texts.{rows_text}

-- a label has a name, and both its texts are texts
pub record IsNamedText (p : Pair) : Type 0 where
  pub some : p.name ≢ []
  pub name : IsUtf8 p.name
  pub value : IsUtf8 p.value

-- both texts of a label are texts
pub record IsLabelText (p : Pair) : Type 0 where
  pub name : IsUtf8 p.name
  pub value : IsUtf8 p.value

-- what a row is always: its series a label set of texts, its value a value, its moment within 64 bits
pub record IsWellFormed (row : ViewRow) : Type 0 where
  pub set : IsSet row.series
  pub texts : All IsLabelText row.series
  pub value : is_value row.value ≡ true
  pub moment : is_in_range row.moment ≡ true

-- a row of a series with a metric name; its other parts are what a label set, a value and a moment always are
pub record HasMetric (row : ViewRow) : Type 0 where
  pub metric : value_in row.series metric_label ≢ []
  pub set : IsSet row.series
  pub texts : All IsNamedText row.series
  pub value : is_value row.value ≡ true
  pub moment : is_in_range row.moment ≡ true

-- the row of a body that has the metric name, the labels, the value and the moment of a row, on the line of that number
abbrev pub body_row : ℕ → ViewRow → BodyRow
body_row number row =
    record {
      line = number;
      raw = set_text row.series;
      name = value_in row.series metric_label;
      labels = other_labels row.series;
      value = row.value;
      stamp = Some row.moment;
    }

-- the rows of a body that have those of these rows, in their order, each on a line of its own from that number on
abbrev pub body_rows : ℕ → List ViewRow → List BodyRow
body_rows number [] = []
body_rows number (row ∷ rows) = body_row number row ∷ body_rows (number + 1) rows

-- the text of rows reads as just these rows
abbrev pub ReadsBack : Type 0
ReadsBack = (rows : List ViewRow) → All HasMetric rows → AreLines Quoted 1 (lines_of (rows_text rows)) (body_rows 1 rows)
