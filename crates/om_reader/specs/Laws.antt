-- Laws of converting, in the words of the grammars.
use Rattle.std.specs.Prelude.{◌≡◌, ◌↔◌, ℕ, List, Result, Ok, Err}
use Rattle.label_set.specs.declared.forms.Form.TheVariants.{Plain}
use Rattle.expo_reader.specs.Bodies.{lines_of, reading as plain_reading}
use Rattle.expo_reader.specs.Grammar.{AreLines as ArePlainLines}
use Rattle.expo_reader.specs.declared.rows.BodyRow.{BodyRow}
use Rattle.om_reader.specs.Bodies.{on_lines, plain_text, reading}
use Rattle.om_reader.specs.Grammar.{OmFaulty, OmLines}
use Rattle.om_reader.specs.declared.bodies.OmError.{OmError}
use Rattle.om_reader.specs.declared.bodies.OmError.TheVariants.{Line, NoMemory}

-- what may be said of a body: its rows, or the number of its first faulty line
abbrev pub IsReading : List ℕ → Result (List BodyRow) ℕ → Type 0
IsReading bytes (Ok rows) = OmLines bytes rows
IsReading bytes (Err n) = OmFaulty bytes n

-- that is what reading a body gives, and nothing else
abbrev pub ReadsTheFormat : Type 0
ReadsTheFormat = (bytes : List ℕ) (said : Result (List BodyRow) ℕ) → (reading bytes ≡ said) ↔ IsReading bytes said

-- one thing may be said of a body
abbrev pub HasOneReading : Type 0
HasOneReading =
    (bytes : List ℕ) → (said : Result (List BodyRow) ℕ) × IsReading bytes said
    × ((other : Result (List BodyRow) ℕ) → IsReading bytes other → other ≡ said)

-- bytes are the text of these rows, and as a body of the text exposition format they have just these rows, in lines of their own
abbrev pub IsPlain : List ℕ → List BodyRow → Type 0
IsPlain text rows = (text ≡ plain_text rows) × ArePlainLines Plain 1 (lines_of text) (on_lines 1 rows) × (plain_reading Plain text ≡ Ok (on_lines 1 rows))

-- what a body becomes: the text of its rows
abbrev pub IsConverted : List ℕ → List ℕ → Type 0
IsConverted bytes text = (rows : List BodyRow) × OmLines bytes rows × IsPlain text rows

-- the rows of a body are those of the text that it becomes
abbrev pub KeepsRows : Type 0
KeepsRows = (bytes : List ℕ) (rows : List BodyRow) → OmLines bytes rows → IsPlain (plain_text rows) rows

-- a line that is named as the cause is the first faulty one
abbrev pub IsCauseOf : OmError → List ℕ → Type 0
IsCauseOf (Line n) bytes = OmFaulty bytes n
IsCauseOf NoMemory bytes = Unit {0}

-- the cause is the faulty line that was said, unless memory ran out
abbrev pub CauseIs : {A : Type 0} → OmError → Result A ℕ → Type 0
CauseIs NoMemory said = Unit {0}
CauseIs (Line n) said = said ≡ Err n
