use Rattle.std.proofs.Common.{sym, subst}
use Rattle.journal_text.specs.Events.{MayFollow, now_of, JournalView}
use Rattle.journal_text.proofs.JournalLemmas.{kept_more, journal_more}
use Rattle.journal_text.proofs.journal.Journal.push.Goals as goal

pub invariant_of-self : goal.invariant_of-self
invariant_of-self c =
    rw (c.push_reserved.ensures.items, c.now_after-self-inside.ensures.value)
    (kept_more c.self.inside.events.items c.self.inside.last c.args.event c.self.invariant c.requires.limits c.now_after-self-inside.ensures.names
    (subst (λ (v : JournalView). MayFollow (now_of v.events) c.args.event) (sym c.self.view_is) c.requires.order))

pub returns-clause-journal : goal.returns-clause-journal
returns-clause-journal c =
    rw c.push_reserved.ensures.items
    (journal_more c.self.inside.events.items c.args.event c.self.invariant.journal c.requires.limits c.now_after-self-inside.ensures.names
    (subst (λ (v : JournalView). MayFollow (now_of v.events) c.args.event) (sym c.self.view_is) c.requires.order))
