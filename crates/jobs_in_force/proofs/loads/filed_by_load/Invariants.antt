use Rattle.std.proofs.Common.{◌≡◌, map}
use Rattle.jobs_in_force.specs.Jobs.{loaded_job}
use Rattle.jobs_in_force.proofs.loads.filed_by_load.Given as goal

abbrev pub invariant-loop-job : goal.invariant-loop-job
invariant-loop-job l = l.filed.items ≡ map (loaded_job l.jobs) l.yielded
