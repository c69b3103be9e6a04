use Rattle.std.proofs.Common.{◌≡◌, ◌∙◌, [], sym, append-nil, refl}
use Rattle.run_lock.specs.declared.marks.Entry.{Entry}
use Rattle.turn_lock.specs.Passes.{number_of, own_of, seen_by}
use Rattle.run_lock.specs.Entries.{entries_of}
use Rattle.std.proofs.lemmas.List.Elements.{All-nil}
use Rattle.run_lock.proofs.SeatLemmas.{given_own, same_own}
use Rattle.run_lock.proofs.seat.Seat.plan.Goals as goal

-- the turn added nothing
pub give-requires-clause-goes_on : goal.give-requires-clause-goes_on
give-requires-clause-goes_on g c =
    ([], sym c.take-state.ensures.seen ∙ sym (append-nil (seen_by c.take-state.new.pass)), All-nil (λ (e : Entry). e.seat ≡ number_of c.take-state.new.pass))

pub returns-clause-own : goal.returns-clause-own
returns-clause-own g c =
    let before = c.take-state.result in
    let log = entries_of before.core before.marks.items in
    let own = own_of c.args.self.now.pass in
    let own' = own_of c.give.new.pass in
    same_own log log own own' refl (given_own own (own_of c.take-state.new.pass) own' (seen_by c.take-state.new.pass) log log c.give.ensures.own c.take-state.ensures.mine c.take-state.ensures.seen)
