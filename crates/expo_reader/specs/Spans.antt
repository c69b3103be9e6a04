-- How rows are seen that are offsets into their body: the name and the labels are what the text of the line says again.
use Rattle.std.specs.Prelude.{IsTrue, ◌≡◌, ℕ, ℤ, ◌+◌, ◌-◌, ◌≤◌, List, [], ◌∷◌, ◌++◌, take, drop, map, Option, Some, None}
use Rattle.std.specs.Str.{IsUtf8}
use Rattle.label_set.specs.declared.forms.Form.TheVariants.{Quoted}
use Rattle.label_set.specs.declared.texts.Pair.{Pair}
use Rattle.value_text.specs.Values.{is_value}
use Rattle.expo_reader.specs.Forms.{all_labels_in, labels_after, value_in}
use Rattle.expo_reader.specs.Names.{braced_name}
use Rattle.expo_reader.specs.Texts.{mark_in, word_in}
use Rattle.expo_reader.specs.declared.rows.BodyRow.{BodyRow}
use Rattle.expo_reader.specs.declared.spans.LineSpan.{LineSpan}
use Rattle.expo_reader.specs.declared.spans.RowSpan.{RowSpan}

-- the name of a line: the word with which it begins, or the name in quotes behind its `{`
abbrev pub word_of : Option (List ℕ × List ℕ) → List ℕ
word_of None = []
word_of (Some (word, rest)) = word

abbrev pub name_of : Option (List ℕ × List ℕ) → Option (List ℕ × List ℕ) → List ℕ
name_of (Some (word, rest)) braced = word
name_of None braced = word_of braced

unfoldable pub name_at : List ℕ → List ℕ
name_at line = name_of (word_in line) (braced_name line)

-- the labels behind it
abbrev pub found_labels : Option (List Pair × List ℕ) → List Pair
found_labels None = []
found_labels (Some (labels, rest)) = labels

abbrev pub inside_labels : Option (List ℕ) → List Pair
inside_labels None = []
inside_labels (Some inside) = found_labels (all_labels_in Quoted inside)

abbrev pub braced_labels : Option (List ℕ × List ℕ) → List Pair
braced_labels None = []
braced_labels (Some (name, rest)) = found_labels (labels_after rest)

abbrev pub labels_behind : Option (List ℕ × List ℕ) → Option (List ℕ × List ℕ) → List Pair
labels_behind (Some (name, rest)) braced = inside_labels (mark_in 123 rest)
labels_behind None braced = braced_labels braced

unfoldable pub labels_at : List ℕ → List Pair
labels_at line = labels_behind (word_in line) (braced_name line)

abbrev pub made_row : ℕ → List ℕ → List ℕ → List Pair → List ℕ × Option ℤ → BodyRow
made_row number raw name labels (value, stamp) = record { line = number; raw = raw; name = name; labels = labels; value = value; stamp = stamp }

-- the row of a line with that name and these labels, whose other parts stand there
abbrev pub spanned_row : ℕ → List ℕ → List ℕ → List Pair → LineSpan → BodyRow
spanned_row number line name labels s = made_row number (take s.raw_len line) name labels (take s.value_len (drop s.value_at line), s.stamp)

-- the row of a line whose parts stand there
abbrev pub row_at : ℕ → List ℕ → LineSpan → BodyRow
row_at number line s = spanned_row number line (name_at line) (labels_at line) s

-- the parts stand within a line of that length
abbrev pub IsInside : ℕ → LineSpan → Type 0
IsInside n s = (s.raw_len ≤ n) × (s.value_at + s.value_len ≤ n)

-- the text is the end of a line
abbrev pub IsTail : List ℕ → List ℕ → Type 0
IsTail rest line = (front : List ℕ) × (line ≡ front ++ rest)

-- the parts of a line whose raw text has that length, with what follows it
abbrev pub HasParts : List ℕ → ℕ → List ℕ → LineSpan → Type 0
HasParts line raw_len rest s = (s.raw_len ≡ raw_len) × (value_in rest ≡ Some (take s.value_len (drop s.value_at line), s.stamp))

-- the line of a row from its first byte that is no blank on
abbrev pub text_of : List ℕ → RowSpan → List ℕ
text_of bytes r = take r.len (drop r.start bytes)

abbrev pub row_seen : List ℕ → RowSpan → BodyRow
row_seen bytes r = row_at r.line (text_of bytes r) r.parts

unfoldable pub rows_seen : List ℕ → List RowSpan → List BodyRow
rows_seen bytes rows = map (row_seen bytes) rows

-- the row stands among the first n bytes
abbrev pub IsWithin : ℕ → RowSpan → Type 0
IsWithin n r = (r.start + r.len ≤ n) × IsInside r.len r.parts

-- what a line said: its row, if it has one
abbrev pub span_row : ℕ → List ℕ → Option (ℕ × LineSpan) → Option BodyRow
span_row number line None = None
span_row number line (Some (start, s)) = Some (row_at number (drop start line) s)

-- the row of a line that stands at a place and has that length, if it has one
abbrev pub span_list : ℕ → ℕ → ℕ → Option (ℕ × LineSpan) → List RowSpan
span_list number place end None = []
span_list number place end (Some (start, s)) = record { line = number; start = place + start; len = end - start; parts = s } ∷ []

-- the value is one, and the name is UTF-8
abbrev pub IsWritten : BodyRow → Type 0
IsWritten r = IsTrue (is_value r.value) × IsUtf8 r.name
