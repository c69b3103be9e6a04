use Rattle.std.proofs.Common.{◌≡◌, ◌∙◌, ◌++◌, ◌+◌, length, drop, ap}
use Rattle.turn_lock.specs.Passes.{number_of, own_of, seen_by}
use Rattle.run_lock.specs.Entries.{entries_of, own_by}
use Rattle.journal_text.specs.Events.{now_of}
use Rattle.run_lock.specs.Held.{pending}
use Rattle.run_lock.proofs.SeatLemmas.{adds_own, given_own, own_at}
use Rattle.run_lock.proofs.seat.Seat.bring.Goals as goal

pub finish-brought-requires-clause-out : goal.finish-brought-requires-clause-out
finish-brought-requires-clause-out g c =
    let before = c.take-state.result in
    let log = entries_of before.core before.marks.items in
    let own = own_of c.args.self.now.pass in
    let same : own_by (2 + c.args.place) log ≡ own = own_at log own (number_of c.args.self.now.pass) (2 + c.args.place) c.requires.seat.2 c.take-state.ensures.own in
    ap pending same ∙ c.requires.out

pub returns-then-wakes-clause-brought : goal.returns-then-wakes-clause-brought
returns-then-wakes-clause-brought g c =
    let before = c.take-state.result in
    let after = c.finish-brought.new.self in
    let log = entries_of before.core before.marks.items in
    let later = entries_of after.core after.marks.items in
    let own = own_of c.args.self.now.pass in
    let own' = own_of c.give.new.pass in
    let more : own' ≡ own ++ drop (length log) later = given_own own (own_of c.take-state.new.pass) own' (seen_by c.take-state.new.pass) log later c.give.ensures.own c.take-state.ensures.mine c.take-state.ensures.seen in
    λ h. (now_of before.core, adds_own log later own own' _ _ (c.finish-brought.ensures.brought h) more)

pub returns-else-wakes-clause-brought : goal.returns-else-wakes-clause-brought
returns-else-wakes-clause-brought g c =
    let before = c.take-state.result in
    let after = c.finish-brought.new.self in
    let log = entries_of before.core before.marks.items in
    let later = entries_of after.core after.marks.items in
    let own = own_of c.args.self.now.pass in
    let own' = own_of c.give.new.pass in
    let more : own' ≡ own ++ drop (length log) later = given_own own (own_of c.take-state.new.pass) own' (seen_by c.take-state.new.pass) log later c.give.ensures.own c.take-state.ensures.mine c.take-state.ensures.seen in
    λ h. (now_of before.core, adds_own log later own own' _ _ (c.finish-brought.ensures.brought h) more)
