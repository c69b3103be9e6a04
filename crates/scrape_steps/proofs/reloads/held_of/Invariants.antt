use Rattle.std.proofs.Common.{◌≡◌, take}
use Rattle.std.specs.Prelude.{ℤ}
use Rattle.scrape_steps.specs.Plans.{IsHeld, after_each}
use Rattle.scrape_steps.specs.Concerned.{concerned}
use Rattle.scrape_steps.proofs.reloads.held_of.Given as goal

abbrev pub invariant-loop-transition : goal.invariant-loop-transition
invariant-loop-transition l = record {
  place : l.place ≡ l.transition-index;
  held : (moment : ℤ) → IsHeld l.held l.names (after_each moment (take l.transition-index l.transitions) (take l.transition-index (concerned l.lives)));
}
