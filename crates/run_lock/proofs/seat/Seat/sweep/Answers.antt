use Rattle.std.proofs.Common.{◌≡◌, ◌++◌, ◌<◌, List, length, drop, subst, sym}
use Rattle.run_lock.specs.declared.marks.Entry.{Entry}
use Rattle.turn_lock.specs.Passes.{number_of, own_of, seen_by}
use Rattle.run_lock.specs.Entries.{entries_of, brought_in, own_by}
use Rattle.journal_text.specs.Events.{now_of}
use Rattle.run_lock.proofs.SeatLemmas.{adds_own, given_own, own_at}
use Rattle.run_lock.proofs.seat.Seat.sweep.Goals as goal

pub sweep-swept-requires : goal.sweep-swept-requires
sweep-swept-requires g c =
    let before = c.take-state.result in
    let log = entries_of before.core before.marks.items in
    let own = own_of c.args.self.now.pass in
    let same : own_by 1 log ≡ own = own_at log own (number_of c.args.self.now.pass) 1 c.requires.seat.2 c.take-state.ensures.own in
    record { left = subst (λ (xs : List Entry). length (brought_in xs) < g.B.Asked.turns) (sym same) c.requires.left }

pub returns-clause-brought : goal.returns-clause-brought
returns-clause-brought g c =
    let before = c.take-state.result in
    let after = c.sweep-swept.new.self in
    let log = entries_of before.core before.marks.items in
    let later = entries_of after.core after.marks.items in
    let own = own_of c.args.self.now.pass in
    let own' = own_of c.give.new.pass in
    let more : own' ≡ own ++ drop (length log) later = given_own own (own_of c.take-state.new.pass) own' (seen_by c.take-state.new.pass) log later c.give.ensures.own c.take-state.ensures.mine c.take-state.ensures.seen in
    λ h. (now_of before.core, adds_own log later own own' _ _ (c.sweep-swept.ensures.brought h) more)
