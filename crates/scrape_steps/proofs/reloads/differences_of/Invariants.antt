use Rattle.std.proofs.Common.{◌≡◌, map, take}
use Rattle.scrape_machine.specs.Machine.{difference}
use Rattle.scrape_steps.proofs.reloads.differences_of.Given as goal

abbrev pub invariant-loop-job : goal.invariant-loop-job
invariant-loop-job l = l.differences.items ≡ map (difference l.jobs) (take l.job-index l.news)
