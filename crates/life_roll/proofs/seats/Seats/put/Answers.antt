use Rattle.std.proofs.Common.{◌∙◌, ap}
use Rattle.std.specs.List.{list_any}
use Rattle.std.proofs.lemmas.Bool.{and_parts, eqb-true}
use Rattle.life_roll.specs.Seats as spec
use Rattle.life_roll.specs.contracts.seats.SeatPartialEq.TheImpl as seat
use Rattle.life_roll.specs.declared.seats.Seat.{Seat}
use Rattle.life_roll.proofs.SeatLemmas.{any_insert, seats_alike}
use Rattle.life_roll.proofs.seats.Seats.put.Goals as goal

pub returns-clause-with : goal.returns-clause-with
returns-clause-with c = λ job identity.
    ap (λ ks. list_any (spec.is_seat job identity) ks) c.in_ok-insert.ensures.keys
    ∙ any_insert (spec.is_seat job identity) seat.ghosts.eq c.args.self.now.set.keys c.args.seat
    (λ (k : Seat) h.
    let parts = and_parts _ _ h in
    seats_alike job identity c.args.seat k (eqb-true c.args.seat.job k.job parts.0) parts.1)
