use Rattle.std.proofs.Common.{◌≡◌, ◌≤◌, ◌++◌, ◌*◌}
use Rattle.std.specs.List.{flat_map}
use Rattle.journal_text.specs.Events.{now_of}
use Rattle.synth.specs.Scripts.{upto, scrape_events}
use Rattle.synth.proofs.scripts.push_scrapes.Given as goal

abbrev pub invariant-loop-scrape : goal.invariant-loop-scrape
invariant-loop-scrape l = record {
  events : l.journal.events ≡ l.fn.journal.events ++ flat_map (scrape_events l.plan) (upto l.scrape);
  now : now_of l.journal.events ≤ 15000 * l.scrape;
}
