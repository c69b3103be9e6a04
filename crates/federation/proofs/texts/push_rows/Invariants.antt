use Rattle.std.proofs.Common.{◌≡◌, ◌++◌, take}
use Rattle.std.specs.Prelude.{All}
use Rattle.federation.specs.Readings.{IsWellFormed}
use Rattle.federation.specs.Texts.{rows_text}
use Rattle.federation.proofs.texts.push_rows.Given as goal

abbrev pub invariant-loop-row : goal.invariant-loop-row
invariant-loop-row l = (l.text.items ≡ l.fn.text.items ++ rows_text (take l.row-index l.rows)) × All IsWellFormed (take l.row-index l.rows)
