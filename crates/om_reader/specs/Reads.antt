-- What the functions that go over a line or a body say of it, and of what they leave.
use Rattle.std.specs.Prelude.{◌≡◌, ℕ, ℤ, List, [], ◌∷◌, ◌++◌, Option, Some, Result, Ok}
use Rattle.label_set.specs.declared.texts.Pair.{Pair}
use Rattle.expo_reader.specs.Bodies.{names_of, row_list}
use Rattle.expo_reader.specs.Texts.{mark_at}
use Rattle.expo_reader.specs.declared.rows.BodyRow.{BodyRow}
use Rattle.expo_reader.specs.declared.faults.Fault.{Fault}
use Rattle.om_reader.specs.Bodies.{plain_text}
use Rattle.expo_reader.specs.Faults.{FaultIs}
use Rattle.om_reader.specs.Forms.{Sample, after_name, cut}

-- a label of that name was found, and this follows it
abbrev pub IsLabelOf : List ℕ → Option (Pair × List ℕ) → List ℕ → Type 0
IsLabelOf name said rest = (p : Pair) × (said ≡ Some (p, rest)) × (p.name ≡ name)

-- a label was found, this follows it, and its name was added to some
abbrev pub AddsLabel : Option (Pair × List ℕ) → List ℕ → List (List ℕ) → List (List ℕ) → Type 0
AddsLabel said rest old new = (p : Pair) × (said ≡ Some (p, rest)) × (new ≡ old ++ p.name ∷ [])

-- the same of several labels
abbrev pub AddsLabels : Option (List Pair × List ℕ) → List ℕ → List (List ℕ) → List (List ℕ) → Type 0
AddsLabels said rest old new = (more : List Pair) × (said ≡ Some (more, rest)) × (new ≡ old ++ names_of more)

-- labels were found, this follows them, and these are their names
abbrev pub HasLabels : Option (List Pair × List ℕ) → List ℕ → List (List ℕ) → Type 0
HasLabels said rest names = (labels : List Pair) × (said ≡ Some (labels, rest)) × (names ≡ names_of labels)

-- behind the name of a line, labels or none were found, and this follows them
abbrev pub IsBehindLabels : List ℕ → List ℕ → Type 0
IsBehindLabels rest behind = (labels : List Pair) × ((line name : List ℕ) → after_name line name rest (mark_at 123 rest) ≡ cut line name labels behind)

-- or they are faulty
abbrev pub IsFaultBehind : List ℕ → Fault → Type 0
IsFaultBehind rest f = (line name : List ℕ) → FaultIs f (after_name line name rest (mark_at 123 rest))

-- a sample was found with that raw text, that value and that timestamp
abbrev pub IsSampleOf : List ℕ → List ℕ → Option ℤ → Option Sample → Type 0
IsSampleOf raw value stamp said = (s : Sample) × (said ≡ Some s) × (s.raw ≡ raw) × (s.value ≡ value) × (s.stamp ≡ stamp)

-- a line was read, and its row, if it has one, was added to a text
abbrev pub AddsRow : Result (Option BodyRow) ℕ → List ℕ → List ℕ → Type 0
AddsRow said old new = (row : Option BodyRow) × (said ≡ Ok row) × (new ≡ old ++ plain_text (row_list row))

-- a body was read, and its rows were added
abbrev pub AddsRows : Result (List BodyRow) ℕ → List ℕ → List ℕ → Type 0
AddsRows said old new = (rows : List BodyRow) × (said ≡ Ok rows) × (new ≡ old ++ plain_text rows)
