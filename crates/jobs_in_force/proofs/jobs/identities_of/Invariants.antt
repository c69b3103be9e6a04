use Rattle.std.proofs.Common.{take}
use Rattle.jobs_in_force.specs.TargetWords.{IsIndexed}
use Rattle.jobs_in_force.proofs.jobs.identities_of.Given as goal

abbrev pub invariant-loop-target : goal.invariant-loop-target
invariant-loop-target l = IsIndexed (take l.target-index l.targets) l.identities.keys
