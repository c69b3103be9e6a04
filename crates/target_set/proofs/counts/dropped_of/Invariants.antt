use Rattle.std.proofs.Common.{◌≡◌, ◌≤◌, take}
use Rattle.target_set.specs.Listed.{dropped_of}
use Rattle.target_set.proofs.counts.dropped_of.Given as goal

abbrev pub invariant-loop-outcome : goal.invariant-loop-outcome
invariant-loop-outcome l = (l.dropped ≤ l.outcome-index) × (l.dropped ≡ dropped_of (take l.outcome-index l.outcomes))
