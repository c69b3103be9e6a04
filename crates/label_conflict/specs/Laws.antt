-- What holds of the definitions for all labels and names.
use Rattle.std.specs.Prelude.{ℕ, List, IsSome}
use Rattle.label_set.specs.declared.texts.Pair.{Pair}
use Rattle.label_conflict.specs.Merging.{free_name}

-- a name that no label bears comes within as many prefixes as there are labels and one more
abbrev pub HasFreeName : List Pair → List ℕ → Type 0
HasFreeName labels name = IsSome (free_name labels name)
