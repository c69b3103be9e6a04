use Rattle.std.proofs.Common.{◌≡◌, List, [], ◌∷◌, ◌++◌, ◌+◌, sym, refl, ap, ◌∙◌, subst}
use Rattle.run_lock.specs.declared.marks.Mark.{Mark}
use Rattle.run_lock.specs.declared.marks.Mark.TheVariants as mark
use Rattle.run_lock.specs.declared.marks.Note.TheVariants.{Took}
use Rattle.run_lock.specs.Entries.{entries_of}
use Rattle.run_lock.specs.Running.{Known, IsRun, marked_by}
use Rattle.run_lock.proofs.EntryLemmas.{goes_one}
use Rattle.run_lock.proofs.RunLemmas.{taken, took_log, run_took}
use Rattle.run_lock.proofs.state.RunState.take_ready.Goals as goal

pub invariant_of-self-2-clause-run : goal.invariant_of-self-2-clause-run
invariant_of-self-2-clause-run g c =
    let old = c.args.self.now in
    let k : Known = record { events = old.core; marks = old.marks.items; next = old.next; started = old.started; slots = old.slots.items; out = old.out; sweeps_left = old.sweeps_left; ended = old.ended } in
    let seat = 2 + c.args.place in
    let marks : c.push_reserved.new.self.items ≡ old.marks.items ++ mark.Took seat old.next ∷ [] = c.push_reserved.ensures.items ∙ ap (λ (ms : List Mark). ms ++ mark.Took seat old.next ∷ []) c.reserve.ensures.items in
    subst (λ (ms : List Mark). IsRun g.B.Asked.workers g.B.Asked.turns g.B.Asked.start (marked_by (taken g.B.Asked.workers g.B.Asked.turns g.B.Asked.start k c.args.place seat) ms)) (sym marks)
    (run_took g.B.Asked.workers g.B.Asked.turns g.B.Asked.start k c.args.place seat old.run c.requires.few refl c.requires.free c.requires.ready)

pub returns-clause-goes : goal.returns-clause-goes
returns-clause-goes g c =
    let old = c.args.self.now in
    let k : Known = record { events = old.core; marks = old.marks.items; next = old.next; started = old.started; slots = old.slots.items; out = old.out; sweeps_left = old.sweeps_left; ended = old.ended } in
    let seat = 2 + c.args.place in
    let marks : c.push_reserved.new.self.items ≡ old.marks.items ++ mark.Took seat old.next ∷ [] = c.push_reserved.ensures.items ∙ ap (λ (ms : List Mark). ms ++ mark.Took seat old.next ∷ []) c.reserve.ensures.items in
    goes_one _ _ seat (Took old.next) (ap (entries_of old.core) marks ∙ took_log g.B.Asked.workers g.B.Asked.turns g.B.Asked.start k c.args.place seat old.run)

pub returns-clause-task : goal.returns-clause-task
returns-clause-task g c =
    let old = c.args.self.now in
    let k : Known = record { events = old.core; marks = old.marks.items; next = old.next; started = old.started; slots = old.slots.items; out = old.out; sweeps_left = old.sweeps_left; ended = old.ended } in
    let seat = 2 + c.args.place in
    let marks : c.push_reserved.new.self.items ≡ old.marks.items ++ mark.Took seat old.next ∷ [] = c.push_reserved.ensures.items ∙ ap (λ (ms : List Mark). ms ++ mark.Took seat old.next ∷ []) c.reserve.ensures.items in
    ap (entries_of old.core) marks ∙ took_log g.B.Asked.workers g.B.Asked.turns g.B.Asked.start k c.args.place seat old.run
