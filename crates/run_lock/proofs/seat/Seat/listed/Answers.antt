use Rattle.std.proofs.Common.{◌≡◌, ◌∙◌, List, [], subst, sym, append-nil, refl}
use Rattle.run_lock.specs.declared.marks.Entry.{Entry}
use Rattle.turn_lock.specs.Passes.{number_of, own_of, seen_by}
use Rattle.run_lock.specs.Entries.{entries_of, own_by}
use Rattle.std.specs.Prelude.{IfOk}
use Rattle.std.proofs.lemmas.List.Elements.{All-nil}
use Rattle.run_lock.specs.Callers.{jobs_known}
use Rattle.run_lock.specs.Listed.{listed_in}
use Rattle.run_lock.proofs.SeatLemmas.{given_own, own_at, same_own}
use Rattle.run_lock.proofs.seat.Seat.listed.Goals as goal

-- the turn added nothing
pub give-requires-clause-goes_on : goal.give-requires-clause-goes_on
give-requires-clause-goes_on g c =
    ([], sym c.take-state.ensures.seen ∙ sym (append-nil (seen_by c.take-state.new.pass)), All-nil (λ (e : Entry). e.seat ≡ number_of c.take-state.new.pass))

pub returns-clause-own : goal.returns-clause-own
returns-clause-own g c =
    let before = c.take-state.result in
    let log = entries_of before.core before.marks.items in
    let own = own_of c.args.self.now.pass in
    let own' = own_of c.give.new.pass in
    same_own log log own own' refl (given_own own (own_of c.take-state.new.pass) own' (seen_by c.take-state.new.pass) log log c.give.ensures.own c.take-state.ensures.mine c.take-state.ensures.seen)

-- the caller's entries in the journal are those of its pass
pub returns-clause-listed : goal.returns-clause-listed
returns-clause-listed g c =
    let before = c.take-state.result in
    let log = entries_of before.core before.marks.items in
    let own = own_of c.args.self.now.pass in
    let same : own_by 0 log ≡ own = own_at log own (number_of c.args.self.now.pass) 0 c.requires.seat.2 c.take-state.ensures.own in
    subst (λ (xs : List Entry). IfOk c.listed-listed.result (λ v. v.items ≡ listed_in (jobs_known g.B.Asked.start xs))) same c.listed-listed.ensures.listed
