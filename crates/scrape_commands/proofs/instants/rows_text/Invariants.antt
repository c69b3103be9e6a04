use Rattle.std.proofs.Common.{◌≡◌, take}
use Rattle.scrape_commands.specs.Instants.{rows_text}
use Rattle.scrape_commands.proofs.instants.rows_text.Given as goal

abbrev pub invariant-loop-row : goal.invariant-loop-row
invariant-loop-row l = l.text.items ≡ rows_text (take l.row-index l.rows)
