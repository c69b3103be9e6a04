use Rattle.std.proofs.Common.{◌≡◌, map, take}
use Rattle.jobs_in_force.specs.Jobs.{updated_job}
use Rattle.jobs_in_force.proofs.updates.filed_by_update.Given as goal

abbrev pub invariant-loop-job : goal.invariant-loop-job
invariant-loop-job l = l.filed.items ≡ map (updated_job l.update.job l.update.file l.update.groups) (take l.job-index l.jobs)
