use Rattle.std.proofs.Common.{◌≡◌, ◌+◌, take}
use Rattle.target_set.specs.Listed.{listed_count}
use Rattle.target_set.proofs.counts.left_after.Given as goal

abbrev pub invariant-loop-group : goal.invariant-loop-group
invariant-loop-group l = l.left + listed_count (take l.group-index l.groups) ≡ l.fn.left
