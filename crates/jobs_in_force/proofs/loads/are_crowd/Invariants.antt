use Rattle.std.proofs.Common.{◌≡◌, ◌+◌, take}
use Rattle.std.specs.List.{sum_by}
use Rattle.jobs_in_force.specs.Jobs.{count_of, most_targets_of_all}
use Rattle.jobs_in_force.proofs.loads.are_crowd.Given as goal

abbrev pub invariant-loop-one : goal.invariant-loop-one
invariant-loop-one l = l.left + sum_by count_of (take l.one-index l.filed) ≡ most_targets_of_all
