use Rattle.std.proofs.Common.{◌≡◌, ◌≤◌, take, length}
use Rattle.std.specs.Prelude.{filter}
use Rattle.journal_text.specs.Lines.{number}
use Rattle.scrape_machine.specs.Machine.{starts_in}
use Rattle.scrape_steps.specs.Concerned.{concerned}
use Rattle.scrape_steps.proofs.scans.count_starts.Given as goal

abbrev pub invariant-loop-index : goal.invariant-loop-index
invariant-loop-index l = record {
  few : l.count ≤ l.index;
  count : l.count ≡ length (filter (starts_in l.jobs (number l.moment)) (take l.index (concerned l.lives)));
}
