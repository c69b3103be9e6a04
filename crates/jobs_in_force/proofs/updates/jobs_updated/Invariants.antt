use Rattle.std.proofs.Common.{◌≡◌, ◌+◌, map, take}
use Rattle.jobs_in_force.specs.Jobs.{renewed}
use Rattle.jobs_in_force.specs.Listed.{listed_by_named}
use Rattle.jobs_in_force.proofs.updates.jobs_updated.Given as goal

abbrev pub invariant-loop-job : goal.invariant-loop-job
invariant-loop-job g l = record {
  jobs : l.news.items ≡ map (renewed l.update.job l.update.file l.update.groups) (take l.job-index l.jobs);
  steps : l.steps ≡ l.fn.steps + listed_by_named l.update.job l.news.items;
}
