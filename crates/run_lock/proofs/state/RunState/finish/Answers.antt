use Rattle.std.proofs.Common.{◌≡◌, List, [], ◌∷◌, ◌++◌, ◌+◌, ◌-◌, sym, refl, ap, ◌∙◌, subst, arith}
use Rattle.journal_text.specs.declared.events.Event.{Event}
use Rattle.journal_text.specs.declared.events.Event.TheVariants.{Finish}
use Rattle.journal_text.specs.Events.{now_of}
use Rattle.run_lock.specs.declared.marks.Mark.{Mark}
use Rattle.run_lock.specs.declared.marks.Mark.TheVariants as mark
use Rattle.run_lock.specs.declared.marks.Note.TheVariants.{Brought}
use Rattle.run_lock.specs.Entries.{entries_of}
use Rattle.run_lock.specs.Running.{Known, IsRun, marked_by}
use Rattle.run_lock.proofs.EntryLemmas.{goes_one}
use Rattle.run_lock.proofs.RunLemmas.{finished, finished_log, run_finished, slot_held}
use Rattle.run_lock.proofs.SlotLemmas.{held_left}
use Rattle.run_lock.proofs.state.RunState.finish.Goals as goal

-- a worker with a ticket out is counted
pub overflow_sub-self : goal.overflow_sub-self
overflow_sub-self g c =
    let old = c.args.self.now in
    let k : Known = record { events = old.core; marks = old.marks.items; next = old.next; started = old.started; slots = old.slots.items; out = old.out; sweeps_left = old.sweeps_left; ended = old.ended } in
    omega (arith, old.run.counted, held_left old.slots.items c.args.place c.args.ticket (slot_held g.B.Asked.workers g.B.Asked.turns g.B.Asked.start k c.args.place c.args.ticket old.run c.requires.few c.requires.out))

pub invariant_of-self-2-clause-run : goal.invariant_of-self-2-clause-run
invariant_of-self-2-clause-run g c =
    let old = c.args.self.now in
    let k : Known = record { events = old.core; marks = old.marks.items; next = old.next; started = old.started; slots = old.slots.items; out = old.out; sweeps_left = old.sweeps_left; ended = old.ended } in
    let seat = 2 + c.args.place in
    let marks : c.push_reserved.new.self.items ≡ old.marks.items ++ mark.Brought seat ∷ [] = c.push_reserved.ensures.items ∙ ap (λ (ms : List Mark). ms ++ mark.Brought seat ∷ []) c.reserve.ensures.items in
    let e = Finish c.args.ticket c.args.fetched.took c.args.fetched.reply in
    let joined : c.take_finish.new.core ≡ old.core ++ e ∷ [] = c.in-Ok.ensures.joined ∙ ap (λ (z : Event). old.core ++ z ∷ []) c.finish_event-event.ensures in
    let less : (old.out - 1) + 1 ≡ old.out = omega (arith, old.run.counted, held_left old.slots.items c.args.place c.args.ticket (slot_held g.B.Asked.workers g.B.Asked.turns g.B.Asked.start k c.args.place c.args.ticket old.run c.requires.few c.requires.out)) in
    let done = run_finished g.B.Asked.workers g.B.Asked.turns g.B.Asked.start k c.args.place seat (old.out - 1) c.args.ticket c.args.fetched.took c.args.fetched.reply old.run c.requires.few refl less c.requires.out in
    let f = finished g.B.Asked.workers g.B.Asked.turns g.B.Asked.start k c.args.place seat (old.out - 1) e in
    subst (λ (es : List Event). IsRun g.B.Asked.workers g.B.Asked.turns g.B.Asked.start (record { events = es; marks = c.push_reserved.new.self.items; next = f.next; started = f.started; slots = f.slots; out = f.out; sweeps_left = f.sweeps_left; ended = f.ended })) (sym joined)
    (subst (λ (ms : List Mark). IsRun g.B.Asked.workers g.B.Asked.turns g.B.Asked.start (marked_by f ms)) (sym marks) done)

pub returns-clause-goes : goal.returns-clause-goes
returns-clause-goes g c =
    let old = c.args.self.now in
    let k : Known = record { events = old.core; marks = old.marks.items; next = old.next; started = old.started; slots = old.slots.items; out = old.out; sweeps_left = old.sweeps_left; ended = old.ended } in
    let seat = 2 + c.args.place in
    let marks : c.push_reserved.new.self.items ≡ old.marks.items ++ mark.Brought seat ∷ [] = c.push_reserved.ensures.items ∙ ap (λ (ms : List Mark). ms ++ mark.Brought seat ∷ []) c.reserve.ensures.items in
    let e = Finish c.args.ticket c.args.fetched.took c.args.fetched.reply in
    let joined : c.take_finish.new.core ≡ old.core ++ e ∷ [] = c.in-Ok.ensures.joined ∙ ap (λ (z : Event). old.core ++ z ∷ []) c.finish_event-event.ensures in
    goes_one _ _ seat (Brought (now_of old.core) e) ((λ i. entries_of (joined i) (marks i)) ∙ finished_log g.B.Asked.workers g.B.Asked.turns g.B.Asked.start k c.args.place seat (old.out - 1) e old.run)

pub returns-clause-brought : goal.returns-clause-brought
returns-clause-brought g c =
    let old = c.args.self.now in
    let k : Known = record { events = old.core; marks = old.marks.items; next = old.next; started = old.started; slots = old.slots.items; out = old.out; sweeps_left = old.sweeps_left; ended = old.ended } in
    let seat = 2 + c.args.place in
    let marks : c.push_reserved.new.self.items ≡ old.marks.items ++ mark.Brought seat ∷ [] = c.push_reserved.ensures.items ∙ ap (λ (ms : List Mark). ms ++ mark.Brought seat ∷ []) c.reserve.ensures.items in
    let e = Finish c.args.ticket c.args.fetched.took c.args.fetched.reply in
    let joined : c.take_finish.new.core ≡ old.core ++ e ∷ [] = c.in-Ok.ensures.joined ∙ ap (λ (z : Event). old.core ++ z ∷ []) c.finish_event-event.ensures in
    λ h. (λ i. entries_of (joined i) (marks i)) ∙ finished_log g.B.Asked.workers g.B.Asked.turns g.B.Asked.start k c.args.place seat (old.out - 1) e old.run
