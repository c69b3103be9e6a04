use Rattle.std.proofs.Common.{◌≡◌, ◌≤◌, length, take}
use Rattle.std.specs.Prelude.{filter}
use Rattle.scrape_steps.specs.Plans.{closes}
use Rattle.scrape_steps.proofs.reloads.count_closed.Given as goal

abbrev pub invariant-loop-transition : goal.invariant-loop-transition
invariant-loop-transition l = record {
  few : l.count ≤ l.transition-index;
  count : l.count ≡ length (filter closes (take l.transition-index l.transitions));
}
