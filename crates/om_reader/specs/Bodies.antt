-- Bodies of OpenMetrics, and the bodies of the text exposition format that they become (OpenMetrics 1.0, "Overall Structure").
use Rattle.std.specs.Prelude.{ℕ, ℤ, ◌+◌, List, [], ◌∷◌, ◌++◌, Option, Some, None, option_map, Result, Ok, Err, slice_index, if◌then◌else◌, ◌==◌, codes}
use Rattle.std.specs.List.{flat_map}
use Rattle.std.specs.Fmt.{signed_decimal}
use Rattle.std.specs.Str.{bytes_eq}
use Rattle.expo_reader.specs.Bodies.{line_then, lines_of, sample_or_fault}
use Rattle.expo_reader.specs.declared.rows.BodyRow.{BodyRow}
use Rattle.om_reader.specs.Forms.{Sample, sample_at}

-- the line that a body ends with
abbrev pub eof : List ℕ
eof = codes "# EOF"

-- a sample as the row of the line of that number
abbrev pub row_of : ℕ → Sample → BodyRow
row_of number s = record { line = number; raw = s.raw; name = s.name; labels = s.labels; value = s.value; stamp = s.stamp }

-- what a line says that doesn't end the body: nothing where it begins with `#`, a row, or its number where it is faulty
unfoldable pub line_reading : ℕ → List ℕ → Result (Option BodyRow) ℕ
line_reading number line = if slice_index line 0 == 35 then Ok None else sample_or_fault number (option_map (row_of number) (sample_at line))

-- what follows `# EOF`: no line, or one that is faulty
abbrev pub ended : ℕ → List (List ℕ) → Result (List BodyRow) ℕ
ended number [] = Ok []
ended number (l ∷ ls) = Err (number + 1)

-- the rows of lines through `# EOF`, the first of which has that number, or the first faulty line; where `# EOF` is missing that is the one behind the last
unfoldable pub rows_from : ℕ → List (List ℕ) → Result (List BodyRow) ℕ
rows_from number [] = Err number
rows_from number (l ∷ ls) = if bytes_eq l eof then ended number ls else line_then (line_reading number l) (rows_from (number + 1) ls)

-- the rows of a body, its lines counted from 1, or the number of its first faulty line
unfoldable pub reading : List ℕ → Result (List BodyRow) ℕ
reading bytes = rows_from 1 (lines_of bytes)

-- a timestamp behind a space
abbrev pub stamp_text : Option ℤ → List ℕ
stamp_text None = []
stamp_text (Some ms) = 32 ∷ signed_decimal ms

-- a line of the text exposition format: a raw text, a space, a value, a space and the milliseconds where there is a timestamp, and a line feed
abbrev pub line_text : List ℕ → List ℕ → Option ℤ → List ℕ
line_text raw value stamp = raw ++ 32 ∷ (value ++ (stamp_text stamp ++ 10 ∷ []))

-- that of a row
abbrev pub row_text : BodyRow → List ℕ
row_text r = line_text r.raw r.value r.stamp

-- rows as a body of it
abbrev pub plain_text : List BodyRow → List ℕ
plain_text rows = flat_map row_text rows

-- the row with the number of another line, and rows in lines of their own, the first of which has that number
abbrev pub on_line : ℕ → BodyRow → BodyRow
on_line number r = record { line = number; raw = r.raw; name = r.name; labels = r.labels; value = r.value; stamp = r.stamp }

abbrev pub on_lines : ℕ → List BodyRow → List BodyRow
on_lines number [] = []
on_lines number (r ∷ rs) = on_line number r ∷ on_lines (number + 1) rs

-- the text exposition format's body with the same rows, or the number of the first faulty line
abbrev pub text_of : Result (List BodyRow) ℕ → Result (List ℕ) ℕ
text_of (Ok rows) = Ok (plain_text rows)
text_of (Err n) = Err n

unfoldable pub converted : List ℕ → Result (List ℕ) ℕ
converted bytes = text_of (reading bytes)
