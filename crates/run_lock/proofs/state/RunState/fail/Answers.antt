use Rattle.std.proofs.Common.{List, sym, ap, ◌∙◌, subst}
use Rattle.run_lock.specs.declared.marks.Mark.{Mark}
use Rattle.run_lock.specs.declared.marks.Note.TheVariants.{Failed}
use Rattle.run_lock.specs.Entries.{entries_of}
use Rattle.run_lock.specs.Running.{Known, IsRun, marked_by}
use Rattle.run_lock.proofs.EntryLemmas.{goes_one}
use Rattle.run_lock.proofs.RunLemmas.{failed_log, run_failed}
use Rattle.run_lock.proofs.state.RunState.fail.Goals as goal

pub invariant_of-self-clause-run : goal.invariant_of-self-clause-run
invariant_of-self-clause-run g c =
    let old = c.args.self.now in
    let k : Known = record { events = old.core; marks = old.marks.items; next = old.next; started = old.started; slots = old.slots.items; out = old.out; sweeps_left = old.sweeps_left; ended = old.ended } in
    subst (λ (ms : List Mark). IsRun g.B.Asked.workers g.B.Asked.turns g.B.Asked.start (marked_by k ms)) (sym c.push_reserved.ensures.items) (run_failed g.B.Asked.workers g.B.Asked.turns g.B.Asked.start k c.args.seat old.run)

pub returns-then-not-self-clause-goes : goal.returns-then-not-self-clause-goes
returns-then-not-self-clause-goes g c =
    let old = c.args.self.now in
    let k : Known = record { events = old.core; marks = old.marks.items; next = old.next; started = old.started; slots = old.slots.items; out = old.out; sweeps_left = old.sweeps_left; ended = old.ended } in
    goes_one _ _ c.args.seat Failed (ap (entries_of old.core) c.push_reserved.ensures.items ∙ failed_log g.B.Asked.workers g.B.Asked.turns g.B.Asked.start k c.args.seat old.run)
