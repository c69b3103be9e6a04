use Rattle.std.proofs.Common.{◌≡◌, ◌+◌, ◌≤◌, drop, length}
use Rattle.journal_text.specs.declared.events.Event.TheVariants.{Sweep}
use Rattle.scrape_machine.specs.Machine.{world, lives_from}
use Rattle.scrape_steps.proofs.SweptLemmas.{swept_at}
use Rattle.scrape_steps.proofs.scans.sweep_lives.Given as goal

abbrev pub invariant-loop-place : goal.invariant-loop-place
invariant-loop-place l = record {
  few : l.ticket ≤ length l.started + l.place-index;
  long : length l.lives ≡ length l.initial.lives;
  lives : swept_at l.named.jobs.now l.moment l.ticket (drop l.place-index l.places) l.lives ≡ lives_from (world l.named.jobs.now l.initial.lives l.started) (Sweep l.moment) 0 l.initial.lives;
}
