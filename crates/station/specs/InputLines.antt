-- The lines of an input: a line feed ends each.
use Rattle.std.specs.Prelude.{ℕ, ◌==◌, Bool, List, [], ◌∷◌, ◌++◌}
use Rattle.std.specs.List.{slice_split}

-- the lines that a line feed ends, and what follows the last line feed
abbrev pub is_feed : ℕ → Bool
is_feed b = b == 10

abbrev pub all_but_last : List (List ℕ) → List (List ℕ)
all_but_last [] = []
all_but_last (x ∷ []) = []
all_but_last (x ∷ (y ∷ ys)) = x ∷ all_but_last (y ∷ ys)

abbrev pub last_of : List (List ℕ) → List ℕ
last_of [] = []
last_of (x ∷ []) = x
last_of (x ∷ (y ∷ ys)) = last_of (y ∷ ys)

abbrev pub ended_lines : List ℕ → List (List ℕ)
ended_lines bytes = all_but_last (slice_split is_feed bytes)

abbrev pub open_line : List ℕ → List ℕ
open_line bytes = last_of (slice_split is_feed bytes)

-- a last line without a line feed counts where it isn't empty
abbrev pub unless_empty : List ℕ → List (List ℕ)
unless_empty [] = []
unless_empty (b ∷ bytes) = (b ∷ bytes) ∷ []

abbrev pub all_lines : List ℕ → List (List ℕ)
all_lines bytes = ended_lines bytes ++ unless_empty (open_line bytes)
