-- Rows of a body whose raw texts were met before, in another body or elsewhere: equal raw text has an equal name and equal labels.
use Rattle.std.specs.Prelude.{◌≡◌, ◌⊎◌, ⊤, ℕ, zero, suc, List, [], ◌∷◌, map, slice_get, Option, Some, None, Ok}
use Rattle.label_set.specs.declared.forms.Form.{Form}
use Rattle.label_set.specs.declared.forms.Form.TheVariants.{Quoted}
use Rattle.expo_reader.specs.Bodies.{reading}
use Rattle.expo_reader.specs.declared.rows.BodyRow.{BodyRow}
use Rattle.expo_reader.specs.declared.spans.LineSpan.{LineSpan}

-- the raw texts of rows
abbrev pub raws : List BodyRow → List (List ℕ)
raws rows = map (λ (r : BodyRow). r.raw) rows

-- it is the raw text of a row of some body of that form
abbrev pub IsRawText : Form → List ℕ → Type 0
IsRawText form raw =
    (bytes : List ℕ) × (rows : List BodyRow) × (place : ℕ)
    × (reading form bytes ≡ Ok rows) × (slice_get (raws rows) place ≡ Some raw)

-- each line of a body of the one form is read alike in a body of the other
abbrev pub GoesIn : Form → Form → Type 0
GoesIn from into = (from ≡ into) ⊎ (into ≡ Quoted)

-- a place says which of some texts this one is: 0 none of them, and suc k the one at k
abbrev pub IsLike : List (List ℕ) → ℕ → List ℕ → Type 0
IsLike texts zero raw = ⊤
IsLike texts (suc k) raw = slice_get texts k ≡ Some raw

-- each row has its place
abbrev pub AreLike : List (List ℕ) → List ℕ → List BodyRow → Type 0
AreLike texts [] [] = ⊤
AreLike texts [] (r ∷ rs) = ⊥
AreLike texts (p ∷ ps) [] = ⊥
AreLike texts (p ∷ ps) (r ∷ rs) = IsLike texts p r.raw × AreLike texts ps rs

-- the place of a line's row, if it has one
abbrev pub place_list : ℕ → Option (ℕ × LineSpan) → List ℕ
place_list place None = []
place_list place (Some p) = place ∷ []
