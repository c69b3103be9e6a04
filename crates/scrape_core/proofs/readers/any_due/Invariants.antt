use Rattle.std.proofs.Common.{◌≡◌, drop}
use Rattle.std.specs.List.{list_any}
use Rattle.journal_text.specs.Lines.{number}
use Rattle.scrape_steps.specs.Concerned.{concerned}
use Rattle.scrape_core.specs.Readers.{acts}
use Rattle.scrape_core.proofs.readers.any_due.Given as goal

abbrev pub invariant-loop-index : goal.invariant-loop-index
invariant-loop-index l = list_any (acts (number l.moment)) (drop l.index (concerned l.lives)) ≡ list_any (acts (number l.moment)) (concerned l.lives)
