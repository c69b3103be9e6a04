-- Names of labels by themselves, and labels under new names.
use Rattle.std.specs.Prelude.{◌≡◌, ℕ, Bool, List, [], ◌∷◌, map}
use Rattle.std.specs.Borrow.{Bor}
use Rattle.std.specs.List.{list_any}
use Rattle.std.specs.Str.{bytes_eq}
use Rattle.label_set.specs.declared.texts.Pair.{Pair}
use Rattle.label_conflict.specs.Merging.{bears}

-- a name is among those that are borrowed
abbrev pub is_among : List (Bor (List ℕ)) → List ℕ → Bool
is_among names name = list_any (λ (n : Bor (List ℕ)). bytes_eq name n.now) names

-- these are the names of labels
abbrev pub AreNames : List (Bor (List ℕ)) → List Pair → Type 0
AreNames names labels = (name : List ℕ) → is_among names name ≡ bears labels name

-- labels under new names, one for each
abbrev pub under : List (List ℕ) → List Pair → List Pair
under [] ps = []
under (n ∷ ns) [] = []
under (n ∷ ns) (p ∷ ps) = record { name = n; value = p.value } ∷ under ns ps

-- labels that bear these names; no value of theirs is asked for
abbrev pub bare : List (List ℕ) → List Pair
bare names = map (λ (n : List ℕ). record { name = n; value = [] }) names
