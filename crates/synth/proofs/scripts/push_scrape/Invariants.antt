use Rattle.std.proofs.Common.{◌≡◌, ◌++◌, ◌∷◌, ◌*◌, pos}
use Rattle.std.specs.Prelude.{map}
use Rattle.journal_text.specs.Events.{now_of}
use Rattle.journal_text.specs.declared.events.Event.TheVariants.{Sweep}
use Rattle.synth.specs.Scripts.{upto, reply_event}
use Rattle.synth.proofs.scripts.push_scrape.Given as goal

abbrev pub invariant-loop-target : goal.invariant-loop-target
invariant-loop-target l = record {
  events : l.journal.events ≡ l.fn.journal.events ++ Sweep (pos (15000 * l.scrape)) ∷ map (reply_event l.plan l.scrape) (upto l.target);
  now : now_of l.journal.events ≡ 15000 * l.scrape;
}
