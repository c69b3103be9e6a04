use Rattle.std.proofs.Common.{◌≡◌, ℕ, List, length, replicate, sym, ap, ◌∙◌, subst, false}
use Rattle.std.specs.Prelude.{None}
use Rattle.journal_text.specs.declared.events.Event.{Event}
use Rattle.run_lock.specs.declared.marks.Mark.TheVariants as mark
use Rattle.run_lock.specs.Entries.{entries_of}
use Rattle.run_lock.specs.Running.{IsRun}
use Rattle.run_lock.proofs.EntryLemmas.{entries_begun}
use Rattle.run_lock.proofs.RunLemmas.{run_first}
use Rattle.run_lock.proofs.RunLemmas.{fresh_known}
use Rattle.run_lock.proofs.state.RunState.open.Goals as goal

pub invariant_of-result-clause-run : goal.invariant_of-result-clause-run
invariant_of-result-clause-run g c =
    let start = c.args.core in
    let is : c.in-Ok.marks.items ≡ replicate (length start) mark.Before = c.in-Ok.ensures.items ∙ ap (λ (n : ℕ). replicate n mark.Before) c.events.ensures in
    let all : c.in-Ok-no_tickets.slots.items ≡ replicate g.B.Asked.workers None = c.in-Ok-no_tickets.ensures ∙ ap (λ (n : ℕ). replicate n None) c.requires.workers.0 in
    let same : fresh_known g.B.Asked.workers g.B.Asked.turns start ≡ record { events = start; marks = c.in-Ok.marks.items; next = 0; started = 0; slots = c.in-Ok-no_tickets.slots.items; out = 0; sweeps_left = c.args.turns; ended = false } = λ i. record { events = start; marks = sym is i; next = 0; started = 0; slots = sym all i; out = 0; sweeps_left = sym c.requires.turns i; ended = false } in
    subst (λ (es : List Event). IsRun g.B.Asked.workers g.B.Asked.turns es (record { events = start; marks = c.in-Ok.marks.items; next = 0; started = 0; slots = c.in-Ok-no_tickets.slots.items; out = 0; sweeps_left = c.args.turns; ended = false })) c.requires.start
    (subst (IsRun g.B.Asked.workers g.B.Asked.turns start) same (run_first g.B.Asked.workers g.B.Asked.turns start c.requires.fresh))

pub returns-clause-begun : goal.returns-clause-begun
returns-clause-begun g c =
    let start = c.args.core in
    let is : c.in-Ok.marks.items ≡ replicate (length start) mark.Before = c.in-Ok.ensures.items ∙ ap (λ (n : ℕ). replicate n mark.Before) c.events.ensures in
    ap (entries_of start) is ∙ entries_begun 0 start
