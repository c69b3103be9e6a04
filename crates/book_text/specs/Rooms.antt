-- How much room the parts of a line take at most.
use Rattle.std.specs.Prelude.{ℕ, ◌+◌, length}
use Rattle.label_set.specs.declared.texts.Pair.{Pair}

-- a label with a comma, an equals sign and four quotes, where each byte of its name and its value may have an escape
abbrev pub label_room : Pair → ℕ
label_room p = (length p.name + length p.name) + (length p.value + length p.value) + 6
