use Rattle.std.proofs.Common.{◌++◌, List, reverse, ap, ◌∙◌}
use Rattle.journal_text.specs.declared.events.Event.{Event}
use Rattle.scrape_core.proofs.ReplayLemmas.{next_event, after_next, next_fits}
use Rattle.scrape_core.proofs.replays.stepped.Goals as goal

pub take-requires-clause-limits : goal.take-requires-clause-limits
take-requires-clause-limits g c =
    let n = next_event c.args.journal.events c.loop-event.core c.in-Some.event c.loop-event.events.items c.pop.new.self.items c.loop-event.invariant c.in-Some.ensures.items in
    (next_fits c.args.journal.events c.loop-event.core c.in-Some.event c.pop.new.self.items c.into_events-events.ensures.journal n).limits

pub take-requires-clause-order : goal.take-requires-clause-order
take-requires-clause-order g c =
    let n = next_event c.args.journal.events c.loop-event.core c.in-Some.event c.loop-event.events.items c.pop.new.self.items c.loop-event.invariant c.in-Some.ensures.items in
    (next_fits c.args.journal.events c.loop-event.core c.in-Some.event c.pop.new.self.items c.into_events-events.ensures.journal n).follows

pub loop-event-preserved : goal.loop-event-preserved
loop-event-preserved g c =
    let n = next_event c.args.journal.events c.loop-event.core c.in-Some.event c.loop-event.events.items c.pop.new.self.items c.loop-event.invariant c.in-Some.ensures.items in
    ap (λ (z : List Event). z ++ reverse c.pop.new.self.items) c.in_ok-take.ensures.joined ∙ after_next c.args.journal.events c.loop-event.core c.in-Some.event c.pop.new.self.items n
