use Rattle.std.proofs.Common.{◌≡◌, map, take}
use Rattle.scrape_machine.specs.Machine.{name_of}
use Rattle.scrape_steps.proofs.reloads.names_of.Given as goal

abbrev pub invariant-loop-job : goal.invariant-loop-job
invariant-loop-job l = l.names ≡ map name_of (take l.job-index l.jobs)
