use Rattle.std.proofs.Common.{ap, ◌∙◌, ◌++◌, ◌∷◌, []}
use Rattle.journal_text.specs.Events.{now_of}
use Rattle.synth.proofs.OrderLemmas.{now_of-more}
use Rattle.synth.proofs.scripts.push_event.Goals as goal

pub returns-clause-now : goal.returns-clause-now
returns-clause-now c =
    ap now_of (c.push.ensures.joined ∙ ap (λ z. z ++ c.args.event ∷ []) c.reserve.ensures.same) ∙ now_of-more c.args.journal.now.events c.args.event
