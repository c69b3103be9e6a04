use Rattle.std.proofs.Common.{◌++◌, sym, ap, ◌∙◌, arith}
use Rattle.std.proofs.lemmas.List.{take_all}
use Rattle.journal_text.specs.Events.{journal_text, spelling}
use Rattle.journal_text.proofs.JournalLemmas.{journal_text-next}
use Rattle.journal_text.proofs.writing.write_version.Goals as goal

pub loop-event-preserved : goal.loop-event-preserved
loop-event-preserved c =
    c.in_ok-push_event.ensures ∙ ap (λ t. t ++ spelling c.event-item.result) c.loop-event.invariant
    ∙ sym (journal_text-next c.args.version c.events-event-items.result.now c.loop-event.event-index c.event-item.result c.loop-event-test.true c.event-item.is)

pub returns : goal.returns
returns c =
    c.loop-event.invariant ∙ ap (journal_text c.args.version) (take_all c.loop-event.event-index c.events-event-items.result.now (omega arith) ∙ c.events-event-items.ensures.events)
