use Rattle.std.proofs.Common.{◌≡◌, List, [], ◌∷◌, ◌++◌, ◌+◌, sym, ap, ◌∙◌, subst}
use Rattle.run_lock.specs.declared.marks.Mark.{Mark}
use Rattle.run_lock.specs.declared.marks.Mark.TheVariants as mark
use Rattle.run_lock.specs.declared.marks.Note.TheVariants.{Ended}
use Rattle.run_lock.specs.Entries.{entries_of}
use Rattle.run_lock.specs.Running.{Known, IsRun, marked_by}
use Rattle.run_lock.proofs.EntryLemmas.{goes_one}
use Rattle.run_lock.proofs.RunLemmas.{ended, ended_log, run_ended}
use Rattle.run_lock.proofs.state.RunState.end.Goals as goal

pub invariant_of-self-2-clause-run : goal.invariant_of-self-2-clause-run
invariant_of-self-2-clause-run g c =
    let old = c.args.self.now in
    let k : Known = record { events = old.core; marks = old.marks.items; next = old.next; started = old.started; slots = old.slots.items; out = old.out; sweeps_left = old.sweeps_left; ended = old.ended } in
    let seat = 2 + c.args.place in
    let marks : c.push_reserved.new.self.items ≡ old.marks.items ++ mark.Ended seat ∷ [] = c.push_reserved.ensures.items ∙ ap (λ (ms : List Mark). ms ++ mark.Ended seat ∷ []) c.reserve.ensures.items in
    subst (λ (ms : List Mark). IsRun g.B.Asked.workers g.B.Asked.turns g.B.Asked.start (marked_by (ended g.B.Asked.workers g.B.Asked.turns g.B.Asked.start k seat) ms)) (sym marks) (run_ended g.B.Asked.workers g.B.Asked.turns g.B.Asked.start k seat old.run c.requires.over)

pub returns-clause-goes : goal.returns-clause-goes
returns-clause-goes g c =
    let old = c.args.self.now in
    let k : Known = record { events = old.core; marks = old.marks.items; next = old.next; started = old.started; slots = old.slots.items; out = old.out; sweeps_left = old.sweeps_left; ended = old.ended } in
    let seat = 2 + c.args.place in
    let marks : c.push_reserved.new.self.items ≡ old.marks.items ++ mark.Ended seat ∷ [] = c.push_reserved.ensures.items ∙ ap (λ (ms : List Mark). ms ++ mark.Ended seat ∷ []) c.reserve.ensures.items in
    goes_one _ _ seat Ended (ap (entries_of old.core) marks ∙ ended_log g.B.Asked.workers g.B.Asked.turns g.B.Asked.start k seat old.run)

pub returns-clause-task : goal.returns-clause-task
returns-clause-task g c =
    let old = c.args.self.now in
    let k : Known = record { events = old.core; marks = old.marks.items; next = old.next; started = old.started; slots = old.slots.items; out = old.out; sweeps_left = old.sweeps_left; ended = old.ended } in
    let seat = 2 + c.args.place in
    let marks : c.push_reserved.new.self.items ≡ old.marks.items ++ mark.Ended seat ∷ [] = c.push_reserved.ensures.items ∙ ap (λ (ms : List Mark). ms ++ mark.Ended seat ∷ []) c.reserve.ensures.items in
    ap (entries_of old.core) marks ∙ ended_log g.B.Asked.workers g.B.Asked.turns g.B.Asked.start k seat old.run
