use Rattle.std.proofs.Common.{◌≡◌, length, take}
use Rattle.scrape_steps.proofs.SweptLemmas.{met_at}
use Rattle.scrape_steps.proofs.acts.apply_all.Given as goal

abbrev pub invariant-loop-transition : goal.invariant-loop-transition
invariant-loop-transition l = record {
  index : l.index ≡ length l.yielded;
  lives : l.lives ≡ met_at l.moment l.yielded (take l.index l.places) l.initial.lives;
}
