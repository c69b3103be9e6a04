use Rattle.std.proofs.Common.{◌≡◌, ◌∙◌, ◌++◌, ◌+◌, List, length, drop, ap, subst, sym}
use Rattle.turn_lock.specs.Passes.{number_of, own_of, seen_by}
use Rattle.run_lock.specs.Entries.{entries_of, events_in, own_by}
use Rattle.journal_text.specs.declared.events.Event.{Event}
use Rattle.run_lock.specs.Held.{pending}
use Rattle.run_lock.specs.Tasks.{IsAsked}
use Rattle.run_lock.proofs.EntryLemmas.{entries_events}
use Rattle.run_lock.proofs.SeatLemmas.{given_own, own_at, task_own}
use Rattle.run_lock.proofs.seat.Seat.take_task.Goals as goal

pub take-task-requires-clause-free : goal.take-task-requires-clause-free
take-task-requires-clause-free g c =
    let before = c.take-state.result in
    let log = entries_of before.core before.marks.items in
    let own = own_of c.args.self.now.pass in
    let same : own_by (2 + c.args.place) log ≡ own = own_at log own (number_of c.args.self.now.pass) (2 + c.args.place) c.requires.seat.2 c.take-state.ensures.own in
    ap pending same ∙ c.requires.free

pub returns-then-failed-clause-task : goal.returns-then-failed-clause-task
returns-then-failed-clause-task g c =
    let before = c.take-state.result in
    let after = c.take-task.new.self in
    let log = entries_of before.core before.marks.items in
    let later = entries_of after.core after.marks.items in
    let own = own_of c.args.self.now.pass in
    let own' = own_of c.give.new.pass in
    let more : own' ≡ own ++ drop (length log) later = given_own own (own_of c.take-state.new.pass) own' (seen_by c.take-state.new.pass) log later c.give.ensures.own c.take-state.ensures.mine c.take-state.ensures.seen in
    task_own c.args.place c.take-task.result log later own own' c.take-task.ensures.task more

-- what the pass has seen has the events of the journal
pub returns-then-failed-clause-asked : goal.returns-then-failed-clause-asked
returns-then-failed-clause-asked g c =
    let s = c.take-task.new.self in
    let same : events_in (seen_by c.give.new.pass) ≡ c.take-state.result.core = ap events_in c.give.ensures.seen ∙ (entries_events 0 s.marks.items s.core s.run.marked ∙ c.take-task.ensures.core) in
    subst (λ (es : List Event). IsAsked es c.take-task.result) (sym same) c.take-task.ensures.asked

pub returns-else-failed-clause-task : goal.returns-else-failed-clause-task
returns-else-failed-clause-task g c =
    let before = c.take-state.result in
    let after = c.take-task.new.self in
    let log = entries_of before.core before.marks.items in
    let later = entries_of after.core after.marks.items in
    let own = own_of c.args.self.now.pass in
    let own' = own_of c.give.new.pass in
    let more : own' ≡ own ++ drop (length log) later = given_own own (own_of c.take-state.new.pass) own' (seen_by c.take-state.new.pass) log later c.give.ensures.own c.take-state.ensures.mine c.take-state.ensures.seen in
    task_own c.args.place c.take-task.result log later own own' c.take-task.ensures.task more

-- what the pass has seen has the events of the journal
pub returns-else-failed-clause-asked : goal.returns-else-failed-clause-asked
returns-else-failed-clause-asked g c =
    let s = c.take-task.new.self in
    let same : events_in (seen_by c.give.new.pass) ≡ c.take-state.result.core = ap events_in c.give.ensures.seen ∙ (entries_events 0 s.marks.items s.core s.run.marked ∙ c.take-task.ensures.core) in
    subst (λ (es : List Event). IsAsked es c.take-task.result) (sym same) c.take-task.ensures.asked
