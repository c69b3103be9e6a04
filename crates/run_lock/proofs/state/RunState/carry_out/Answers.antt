use Rattle.std.proofs.Common.{◌≡◌, ℕ, List, [], ◌∷◌, ◌++◌, sym, ap, ◌∙◌, subst}
use Rattle.journal_text.specs.declared.events.Event.{Event}
use Rattle.journal_text.specs.Events.{now_of}
use Rattle.journal_text.specs.Lines.{number}
use Rattle.run_lock.specs.declared.marks.Mark.{Mark}
use Rattle.run_lock.specs.declared.marks.Mark.TheVariants as mark
use Rattle.run_lock.specs.declared.marks.Note.TheVariants.{Brought}
use Rattle.run_lock.specs.Entries.{entries_of}
use Rattle.run_lock.specs.Running.{Known, IsRun, marked_by}
use Rattle.run_lock.proofs.EntryLemmas.{goes_one}
use Rattle.scrape_machine.specs.Machine.{answer, world_of}
use Rattle.run_lock.specs.Callers.{jobs_known}
use Rattle.run_lock.specs.Entries.{own_by}
use Rattle.run_lock.specs.Tasks.{event_at}
use Rattle.run_lock.proofs.CallerLemmas.{answered}
use Rattle.run_lock.proofs.RunLemmas.{commanded, commanded_log, run_ordered}
use Rattle.run_lock.proofs.state.RunState.carry_out.Goals as goal

pub invariant_of-self-2-clause-run : goal.invariant_of-self-2-clause-run
invariant_of-self-2-clause-run g c =
    let old = c.args.self.now in
    let k : Known = record { events = old.core; marks = old.marks.items; next = old.next; started = old.started; slots = old.slots.items; out = old.out; sweeps_left = old.sweeps_left; ended = old.ended } in
    let now = now_of old.core in
    let o = c.args.order in
    let e = event_at now o in
    let marks : c.push_reserved.new.self.items ≡ old.marks.items ++ mark.Brought 0 ∷ [] = c.push_reserved.ensures.items ∙ ap (λ (ms : List Mark). ms ++ mark.Brought 0 ∷ []) c.reserve.ensures.items in
    let event : c.event_of-event.result ≡ e = c.event_of-event.ensures.event ∙ ap (λ (n : ℕ). event_at n o) (ap number c.moment.ensures) in
    let joined : c.take.new.self ≡ old.core ++ e ∷ [] = c.in-Ok.ensures.joined ∙ ap (λ (z : Event). old.core ++ z ∷ []) event in
    let done = run_ordered g.B.Asked.workers g.B.Asked.turns g.B.Asked.start k o old.run in
    let f = commanded g.B.Asked.workers g.B.Asked.turns g.B.Asked.start k e in
    subst (λ (es : List Event). IsRun g.B.Asked.workers g.B.Asked.turns g.B.Asked.start (record { events = es; marks = c.push_reserved.new.self.items; next = f.next; started = f.started; slots = f.slots; out = f.out; sweeps_left = f.sweeps_left; ended = f.ended })) (sym joined)
    (subst (λ (ms : List Mark). IsRun g.B.Asked.workers g.B.Asked.turns g.B.Asked.start (marked_by f ms)) (sym marks) done)

pub returns-clause-goes : goal.returns-clause-goes
returns-clause-goes g c =
    let old = c.args.self.now in
    let k : Known = record { events = old.core; marks = old.marks.items; next = old.next; started = old.started; slots = old.slots.items; out = old.out; sweeps_left = old.sweeps_left; ended = old.ended } in
    let now = now_of old.core in
    let o = c.args.order in
    let e = event_at now o in
    let marks : c.push_reserved.new.self.items ≡ old.marks.items ++ mark.Brought 0 ∷ [] = c.push_reserved.ensures.items ∙ ap (λ (ms : List Mark). ms ++ mark.Brought 0 ∷ []) c.reserve.ensures.items in
    let event : c.event_of-event.result ≡ e = c.event_of-event.ensures.event ∙ ap (λ (n : ℕ). event_at n o) (ap number c.moment.ensures) in
    let joined : c.take.new.self ≡ old.core ++ e ∷ [] = c.in-Ok.ensures.joined ∙ ap (λ (z : Event). old.core ++ z ∷ []) event in
    goes_one _ _ 0 (Brought now e) ((λ i. entries_of (joined i) (marks i)) ∙ commanded_log g.B.Asked.workers g.B.Asked.turns g.B.Asked.start k e old.run)

pub returns-clause-brought : goal.returns-clause-brought
returns-clause-brought g c =
    let old = c.args.self.now in
    let k : Known = record { events = old.core; marks = old.marks.items; next = old.next; started = old.started; slots = old.slots.items; out = old.out; sweeps_left = old.sweeps_left; ended = old.ended } in
    let now = now_of old.core in
    let o = c.args.order in
    let e = event_at now o in
    let marks : c.push_reserved.new.self.items ≡ old.marks.items ++ mark.Brought 0 ∷ [] = c.push_reserved.ensures.items ∙ ap (λ (ms : List Mark). ms ++ mark.Brought 0 ∷ []) c.reserve.ensures.items in
    let event : c.event_of-event.result ≡ e = c.event_of-event.ensures.event ∙ ap (λ (n : ℕ). event_at n o) (ap number c.moment.ensures) in
    let joined : c.take.new.self ≡ old.core ++ e ∷ [] = c.in-Ok.ensures.joined ∙ ap (λ (z : Event). old.core ++ z ∷ []) event in
    (λ i. entries_of (joined i) (marks i)) ∙ commanded_log g.B.Asked.workers g.B.Asked.turns g.B.Asked.start k e old.run

pub returns-clause-answer : goal.returns-clause-answer
returns-clause-answer g c =
    let old = c.args.self.now in
    let k : Known = record { events = old.core; marks = old.marks.items; next = old.next; started = old.started; slots = old.slots.items; out = old.out; sweeps_left = old.sweeps_left; ended = old.ended } in
    let now = now_of old.core in
    let o = c.args.order in
    let e = event_at now o in
    let marks : c.push_reserved.new.self.items ≡ old.marks.items ++ mark.Brought 0 ∷ [] = c.push_reserved.ensures.items ∙ ap (λ (ms : List Mark). ms ++ mark.Brought 0 ∷ []) c.reserve.ensures.items in
    let event : c.event_of-event.result ≡ e = c.event_of-event.ensures.event ∙ ap (λ (n : ℕ). event_at n o) (ap number c.moment.ensures) in
    let joined : c.take.new.self ≡ old.core ++ e ∷ [] = c.in-Ok.ensures.joined ∙ ap (λ (z : Event). old.core ++ z ∷ []) event in
    answered old.core (jobs_known g.B.Asked.start (own_by 0 (entries_of old.core old.marks.items))) now o c.in-Ok.answer old.run.running.live old.run.jobs (c.in-Ok.ensures.answer ∙ ap (answer (world_of old.core)) event)
