use Rattle.std.proofs.Common.{◌≡◌, ◌+◌, map}
use Rattle.jobs_in_force.specs.Jobs.{in_force}
use Rattle.jobs_in_force.specs.Listed.{listed_by}
use Rattle.jobs_in_force.proofs.loads.in_force_all.Given as goal

abbrev pub invariant-loop-one : goal.invariant-loop-one
invariant-loop-one g l = record {
  jobs : l.jobs.items ≡ map in_force l.yielded;
  steps : l.steps ≡ l.fn.steps + listed_by l.jobs.items;
}
