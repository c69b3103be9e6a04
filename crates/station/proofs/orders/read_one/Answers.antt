use Rattle.turn_lock.specs.Passes.{own_of}
use Rattle.std.proofs.Common.{refl}
use Rattle.station.proofs.FrontLemmas.{stopped_none}
use Rattle.station.proofs.OrderLemmas.{if_all, on_some, one_update, no_update}
use Rattle.station.proofs.orders.read_one.Goals as goal

pub returns-in-Ok-Refusal-clause-orders : goal.returns-in-Ok-Refusal-clause-orders
returns-in-Ok-Refusal-clause-orders g c =
    no_update (g.S.Shelf.seen c.args.shelf.now).files c.args.listed c.in-Ok-Refusal.field-0 c.in-Ok-Refusal.field-0-0 (own_of c.args.seat.now.pass) (own_of c.args.seat.now.pass) c.in-Ok-Refusal.field-0-is c.in-Ok-Refusal.ensures.found refl

pub returns-in-Err-clause-orders : goal.returns-in-Err-clause-orders
returns-in-Err-clause-orders g c = if_all (g.S.Shelf.seen c.args.shelf.now).files (λ files. stopped_none c.in-Err.stop _ (own_of c.args.seat.now.pass) (own_of c.args.seat.now.pass) refl)

pub returns-clause-orders : goal.returns-clause-orders
returns-clause-orders g c =
    one_update (g.S.Shelf.seen c.args.shelf.now).files c.args.listed c.in-Ok-Text.field-0 c.in-Ok-Text.text (own_of c.args.seat.now.pass) (own_of c.carry_out-answer.new.self.pass) c.in-Ok-Text.field-0-is c.in-Ok-Text.ensures.found
    (on_some c.carry_out-answer.result c.in-Some.field-0 c.in-Some.is c.carry_out-answer.ensures.ordered)
