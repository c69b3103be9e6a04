use Rattle.std.proofs.Common.{◌≡◌, ◌++◌, ◌∷◌, [], ◌∙◌, List, sym, ap, subst, arith}
use Rattle.std.specs.Prelude.{All}
use Rattle.journal_text.specs.declared.events.Event.{Event}
use Rattle.scrape_laws.proofs.RightLemmas.{lives_right}
use Rattle.scrape_machine.specs.Lives.{IsRightLife}
use Rattle.scrape_machine.specs.Machine.{World}
use Rattle.scrape_core.proofs.KeptLemmas.{kept_push}
use Rattle.scrape_core.proofs.machine.Core.take_read_event.Goals as goal

pub take-requires-clause-right : goal.take-requires-clause-right
take-requires-clause-right g c = subst (λ (w : World). All IsRightLife w.lives) (sym c.self.invariant.0.state) (lives_right c.self.inside.journal.events)

pub invariant_of-self-2 : goal.invariant_of-self-2
invariant_of-self-2 g c =
    let es = c.self.inside.journal.events in
    let e = c.args.event in
    let taken = c.in_ok-taken.ensures in
    let joined : c.push.new.self.events ≡ es ++ e ∷ [] = c.push.ensures.joined ∙ ap (λ (z : List Event). z ++ c.into_event.result ∷ []) c.in_ok-reserve.ensures.same ∙ ap (λ (x : Event). es ++ x ∷ []) c.into_event.ensures in (
      kept_push es c.push.new.self.events e c.self.inside.state _ c.self.inside.book.entries _ _ _ c.self.invariant.0 joined taken.state taken.book taken.few taken.listed taken.runs,
      λ _. omega (arith, c.push.ensures.room, c.in_ok-reserve.ensures.room),
    )
