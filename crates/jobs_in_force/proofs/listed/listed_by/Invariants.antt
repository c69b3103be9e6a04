use Rattle.std.proofs.Common.{◌≡◌, take}
use Rattle.jobs_in_force.specs.Listed as spec
use Rattle.jobs_in_force.proofs.listed.listed_by.Given as goal

abbrev pub invariant-loop-job : goal.invariant-loop-job
invariant-loop-job l = l.listed ≡ spec.listed_by (take l.job-index l.jobs)
