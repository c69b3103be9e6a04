use Rattle.std.proofs.Common.{◌≡◌, ℕ, List, [], ◌∷◌, ◌++◌, ◌+◌, ◌-◌, sym, ap, ◌∙◌, subst, arith}
use Rattle.journal_text.specs.declared.events.Event.{Event}
use Rattle.journal_text.specs.declared.events.Event.TheVariants.{Sweep}
use Rattle.journal_text.specs.Events.{now_of}
use Rattle.journal_text.specs.Lines.{number}
use Rattle.run_lock.specs.declared.marks.Mark.{Mark}
use Rattle.run_lock.specs.declared.marks.Mark.TheVariants as mark
use Rattle.run_lock.specs.declared.marks.Note.TheVariants.{Brought}
use Rattle.run_lock.specs.Entries.{entries_of}
use Rattle.run_lock.specs.Running.{Known, IsRun, marked_by}
use Rattle.run_lock.specs.Tasks.{sweep_moment}
use Rattle.run_lock.proofs.EntryLemmas.{goes_one}
use Rattle.run_lock.proofs.RunLemmas.{swept, swept_log, run_swept}
use Rattle.scrape_core.specs.Records.{started_of}
use Rattle.run_lock.proofs.state.RunState.sweep.Goals as goal

pub overflow_sub-self : goal.overflow_sub-self
overflow_sub-self g c =
    let old = c.args.self.now in omega (arith, old.run.sweeps, c.requires.left)

pub invariant_of-self-2-clause-run : goal.invariant_of-self-2-clause-run
invariant_of-self-2-clause-run g c =
    let old = c.args.self.now in
    let k : Known = record { events = old.core; marks = old.marks.items; next = old.next; started = old.started; slots = old.slots.items; out = old.out; sweeps_left = old.sweeps_left; ended = old.ended } in
    let marks : c.push_reserved.new.self.items ≡ old.marks.items ++ mark.Brought 1 ∷ [] = c.push_reserved.ensures.items ∙ ap (λ (ms : List Mark). ms ++ mark.Brought 1 ∷ []) c.reserve.ensures.items in
    let n = c.moment.result in
    let now = now_of old.core in
    let m = sweep_moment c.args.reading now in
    let joined : c.take.new.self ≡ old.core ++ Sweep m ∷ [] = c.in-Ok.ensures.joined ∙ (ap (λ (z : Event). old.core ++ z ∷ []) c.sweep_at-event.ensures.event ∙ ap (λ (z : ℕ). old.core ++ Sweep (sweep_moment c.args.reading z) ∷ []) (ap number c.moment.ensures)) in
    let less : (old.sweeps_left - 1) + 1 ≡ old.sweeps_left = omega (arith, old.run.sweeps, c.requires.left) in
    let is : c.started-self.result ≡ started_of (old.core ++ Sweep m ∷ []) = c.started-self.ensures ∙ ap started_of joined in
    let done = run_swept g.B.Asked.workers g.B.Asked.turns g.B.Asked.start k c.started-self.result (old.sweeps_left - 1) m old.run is less in
    let f = swept g.B.Asked.workers g.B.Asked.turns g.B.Asked.start k c.started-self.result (old.sweeps_left - 1) m in
    subst (λ (es : List Event). IsRun g.B.Asked.workers g.B.Asked.turns g.B.Asked.start (record { events = es; marks = c.push_reserved.new.self.items; next = f.next; started = f.started; slots = f.slots; out = f.out; sweeps_left = f.sweeps_left; ended = f.ended })) (sym joined)
    (subst (λ (ms : List Mark). IsRun g.B.Asked.workers g.B.Asked.turns g.B.Asked.start (marked_by f ms)) (sym marks) done)

pub returns-clause-goes : goal.returns-clause-goes
returns-clause-goes g c =
    let old = c.args.self.now in
    let k : Known = record { events = old.core; marks = old.marks.items; next = old.next; started = old.started; slots = old.slots.items; out = old.out; sweeps_left = old.sweeps_left; ended = old.ended } in
    let marks : c.push_reserved.new.self.items ≡ old.marks.items ++ mark.Brought 1 ∷ [] = c.push_reserved.ensures.items ∙ ap (λ (ms : List Mark). ms ++ mark.Brought 1 ∷ []) c.reserve.ensures.items in
    let n = c.moment.result in
    let now = now_of old.core in
    let m = sweep_moment c.args.reading now in
    let joined : c.take.new.self ≡ old.core ++ Sweep m ∷ [] = c.in-Ok.ensures.joined ∙ (ap (λ (z : Event). old.core ++ z ∷ []) c.sweep_at-event.ensures.event ∙ ap (λ (z : ℕ). old.core ++ Sweep (sweep_moment c.args.reading z) ∷ []) (ap number c.moment.ensures)) in
    goes_one _ _ 1 (Brought (now_of old.core) (Sweep m)) ((λ i. entries_of (joined i) (marks i)) ∙ swept_log g.B.Asked.workers g.B.Asked.turns g.B.Asked.start k old.started old.sweeps_left m old.run)

pub returns-clause-brought : goal.returns-clause-brought
returns-clause-brought g c =
    let old = c.args.self.now in
    let k : Known = record { events = old.core; marks = old.marks.items; next = old.next; started = old.started; slots = old.slots.items; out = old.out; sweeps_left = old.sweeps_left; ended = old.ended } in
    let marks : c.push_reserved.new.self.items ≡ old.marks.items ++ mark.Brought 1 ∷ [] = c.push_reserved.ensures.items ∙ ap (λ (ms : List Mark). ms ++ mark.Brought 1 ∷ []) c.reserve.ensures.items in
    let n = c.moment.result in
    let now = now_of old.core in
    let m = sweep_moment c.args.reading now in
    let joined : c.take.new.self ≡ old.core ++ Sweep m ∷ [] = c.in-Ok.ensures.joined ∙ (ap (λ (z : Event). old.core ++ z ∷ []) c.sweep_at-event.ensures.event ∙ ap (λ (z : ℕ). old.core ++ Sweep (sweep_moment c.args.reading z) ∷ []) (ap number c.moment.ensures)) in
    λ h. (λ i. entries_of (joined i) (marks i)) ∙ swept_log g.B.Asked.workers g.B.Asked.turns g.B.Asked.start k old.started old.sweeps_left m old.run
