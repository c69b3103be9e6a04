use Rattle.std.proofs.Common.{◌≡◌, ◌++◌, List, length, drop, subst}
use Rattle.run_lock.specs.declared.marks.Entry.{Entry}
use Rattle.turn_lock.specs.Passes.{number_of, own_of, seen_by}
use Rattle.run_lock.specs.Entries.{entries_of, own_by, Adds}
use Rattle.std.specs.Prelude.{IfSome}
use Rattle.journal_text.specs.Events.{now_of}
use Rattle.run_lock.specs.Callers.{IsAnswered, jobs_known}
use Rattle.run_lock.specs.Tasks.{order_brought}
use Rattle.run_lock.proofs.SeatLemmas.{adds_own, given_own, on_some_map, own_at}
use Rattle.run_lock.proofs.seat.Seat.carry_out.Goals as goal

pub returns-then-failed-clause-ordered : goal.returns-then-failed-clause-ordered
returns-then-failed-clause-ordered g c =
    let before = c.take-state.result in
    let after = c.carry_out-answer.new.self in
    let log = entries_of before.core before.marks.items in
    let later = entries_of after.core after.marks.items in
    let own = own_of c.args.self.now.pass in
    let own' = own_of c.give.new.pass in
    let more : own' ≡ own ++ drop (length log) later = given_own own (own_of c.take-state.new.pass) own' (seen_by c.take-state.new.pass) log later c.give.ensures.own c.take-state.ensures.mine c.take-state.ensures.seen in
    on_some_map c.carry_out-answer.result (λ (adds : Adds log 0 (order_brought c.args.order (now_of before.core)) later). (now_of before.core, adds_own log later own own' _ _ adds more)) c.carry_out-answer.ensures.brought

pub returns-then-failed-clause-answer : goal.returns-then-failed-clause-answer
returns-then-failed-clause-answer g c =
    let before = c.take-state.result in
    let log = entries_of before.core before.marks.items in
    let own = own_of c.args.self.now.pass in
    let same : own_by 0 log ≡ own = own_at log own (number_of c.args.self.now.pass) 0 c.requires.seat.2 c.take-state.ensures.own in
    subst (λ (xs : List Entry). IfSome c.carry_out-answer.result (IsAnswered (jobs_known g.B.Asked.start xs) c.args.order)) same c.carry_out-answer.ensures.answer

pub returns-else-failed-clause-ordered : goal.returns-else-failed-clause-ordered
returns-else-failed-clause-ordered g c =
    let before = c.take-state.result in
    let after = c.carry_out-answer.new.self in
    let log = entries_of before.core before.marks.items in
    let later = entries_of after.core after.marks.items in
    let own = own_of c.args.self.now.pass in
    let own' = own_of c.give.new.pass in
    let more : own' ≡ own ++ drop (length log) later = given_own own (own_of c.take-state.new.pass) own' (seen_by c.take-state.new.pass) log later c.give.ensures.own c.take-state.ensures.mine c.take-state.ensures.seen in
    on_some_map c.carry_out-answer.result (λ (adds : Adds log 0 (order_brought c.args.order (now_of before.core)) later). (now_of before.core, adds_own log later own own' _ _ adds more)) c.carry_out-answer.ensures.brought

pub returns-else-failed-clause-answer : goal.returns-else-failed-clause-answer
returns-else-failed-clause-answer g c =
    let before = c.take-state.result in
    let log = entries_of before.core before.marks.items in
    let own = own_of c.args.self.now.pass in
    let same : own_by 0 log ≡ own = own_at log own (number_of c.args.self.now.pass) 0 c.requires.seat.2 c.take-state.ensures.own in
    subst (λ (xs : List Entry). IfSome c.carry_out-answer.result (IsAnswered (jobs_known g.B.Asked.start xs) c.args.order)) same c.carry_out-answer.ensures.answer
