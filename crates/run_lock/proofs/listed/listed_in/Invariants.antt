use Rattle.std.specs.Prelude.{◌≡◌, All, take}
use Rattle.run_lock.specs.Listed.{IsListed, listed_in}
use Rattle.run_lock.proofs.listed.listed_in.Given as goal

abbrev pub invariant-loop-job : goal.invariant-loop-job
invariant-loop-job l = record {
  listed : All IsListed l.listed.items;
  all : l.listed.items ≡ listed_in (take l.job-index l.jobs);
}
