use Rattle.std.proofs.Common.{◌∙◌, sym, refl, subst, List, arith}
use Rattle.std.specs.Prelude.{Some, Option, IfSome}
use Rattle.std.proofs.lemmas.List.Elements.{All-pop}
use Rattle.turn_lock.specs.Passes.{own_of}
use Rattle.outside.specs.declared.objects.StoredFile.{StoredFile}
use Rattle.run_lock.specs.Listed.{IsListed}
use Rattle.station.specs.Control.{Orders, update_in}
use Rattle.station.proofs.EndLemmas.{shelf_same, shelf_then, file_stops_after, file_sound}
use Rattle.station.proofs.OrderLemmas.{if_all, if_map, if_both, orders_ok, rest_first, rest_next, rest_done, rest_stopped}
use Rattle.station.proofs.orders.read_backwards.Goals as goal

pub loop-one-init : goal.loop-one-init
loop-one-init g c = record {
  fit = c.requires.fit;
  lock = refl;
  seat = c.requires.seat;
  shelf = shelf_same (g.S.Shelf.seen c.args.shelf.now);
  calm = refl;
  orders = if_all (g.S.Shelf.seen c.args.shelf.now).files (λ files. rest_first files c.args.listed.items (own_of c.args.seat.now.pass) (own_of c.args.seat.now.pass) refl);
}

pub read_one-done-requires-clause-listed : goal.read_one-done-requires-clause-listed
read_one-done-requires-clause-listed g c = (All-pop IsListed c.loop-one.listed.items c.pop.new.self.items (Some c.in-Some.one) c.in-Some.ensures.items c.loop-one.invariant.fit).1

pub loop-one-preserved : goal.loop-one-preserved
loop-one-preserved g c =
    let o = (g.S.Shelf.seen c.args.shelf.now).files in
    let was = c.loop-one.invariant in
    let sound = sym c.is_err.ensures.value ∙ c.if-is_err.false in
    record {
      fit = (All-pop IsListed c.loop-one.listed.items c.pop.new.self.items (Some c.in-Some.one) c.in-Some.ensures.items was.fit).0;
      lock = c.read_one-done.ensures.lock ∙ was.lock;
      seat = c.read_one-done.ensures.seat;
      shelf = shelf_then (g.S.Shelf.seen c.args.shelf.now) (g.S.Shelf.seen c.loop-one.shelf) (g.S.Shelf.seen c.read_one-done.new.shelf) was.shelf c.read_one-done.ensures.shelf;
      calm = file_sound c.read_one-done.result _ sound c.read_one-done.ensures.stops ∙ was.calm;
      orders = if_both o (λ files now more. rest_next files c.args.listed.items c.loop-one.listed.items c.pop.new.self.items c.in-Some.one (own_of c.args.seat.now.pass) (own_of c.loop-one.seat.pass) (own_of c.read_one-done.new.seat.pass) c.in-Some.ensures.items now more) was.orders
          (if_map o (λ files h. orders_ok c.read_one-done.result sound h)
          (subst (λ (p : Option (List StoredFile)). IfSome p (λ files. Orders c.read_one-done.result (update_in files c.in-Some.one) (own_of c.loop-one.seat.pass) (own_of c.read_one-done.new.seat.pass))) was.shelf.files c.read_one-done.ensures.orders));
    }

pub returns-then-is_err-clause-stops : goal.returns-then-is_err-clause-stops
returns-then-is_err-clause-stops g c =
    file_stops_after c.read_one-done.result (g.S.Shelf.seen c.args.shelf.now) (g.S.Shelf.seen c.loop-one.shelf) (g.S.Shelf.seen c.read_one-done.new.shelf) c.loop-one.invariant.calm c.read_one-done.ensures.stops

pub returns-then-is_err-clause-orders : goal.returns-then-is_err-clause-orders
returns-then-is_err-clause-orders g c =
    let o = (g.S.Shelf.seen c.args.shelf.now).files in
    let was = c.loop-one.invariant in
    if_both o
    (λ files now more. rest_stopped c.read_one-done.result files c.args.listed.items c.loop-one.listed.items c.pop.new.self.items c.in-Some.one (own_of c.args.seat.now.pass) (own_of c.loop-one.seat.pass) (own_of c.read_one-done.new.seat.pass)
    (sym c.is_err.ensures.value ∙ c.if-is_err.true) c.in-Some.ensures.items now more) was.orders
    (subst (λ (p : Option (List StoredFile)). IfSome p (λ files. Orders c.read_one-done.result (update_in files c.in-Some.one) (own_of c.loop-one.seat.pass) (own_of c.read_one-done.new.seat.pass))) was.shelf.files c.read_one-done.ensures.orders)

pub returns-clause-orders : goal.returns-clause-orders
returns-clause-orders g c =
    if_map (g.S.Shelf.seen c.args.shelf.now).files
    (λ files h. rest_done files (own_of c.args.seat.now.pass) (own_of c.loop-one.seat.pass) c.args.listed.items c.loop-one.listed.items (omega (arith, c.loop-one.listed.ok.0, c.in_default.ensures.cases.0)) h)
    c.loop-one.invariant.orders
