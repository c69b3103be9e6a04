use Rattle.std.proofs.Common.{refl, subst, sym, arith}
use Rattle.std.specs.Prelude.{Result, IfSome}
use Rattle.outside.specs.Objects.{used}
use Rattle.run_lock.specs.Callers.{jobs_known}
use Rattle.turn_lock.specs.Passes.{own_of}
use Rattle.station.specs.Control.{Orders, rereads}
use Rattle.station.specs.Ends.{EndsSo, FileStops}
use Rattle.station.specs.declared.ends.RunEnd.{RunEnd}
use Rattle.station.specs.declared.ends.Stop.{Stop}
use Rattle.station.proofs.ControlLemmas.{caller_end, stopped_did}
use Rattle.station.proofs.EndLemmas.{ends_later, ends_stopped, shelf_then, stops_is}
use Rattle.station.proofs.control.read_all.Goals as goal

pub returns-in-Ok-clause-shelf : goal.returns-in-Ok-clause-shelf
returns-in-Ok-clause-shelf g c =
    shelf_then (g.S.Shelf.seen c.args.shelf.now) (g.S.Shelf.seen c.read_listed-done.new.shelf) (g.S.Shelf.seen c.read_control.new.shelf) c.read_listed-done.ensures.shelf c.read_control.ensures.shelf

pub returns-in-Ok-clause-ends : goal.returns-in-Ok-clause-ends
returns-in-Ok-clause-ends g c =
    let a = g.S.Shelf.seen c.args.shelf.now in
    let b = g.S.Shelf.seen c.read_listed-done.new.shelf in
    ends_later c.read_control.result a b (g.S.Shelf.seen c.read_control.new.shelf) _ _
    (subst (λ (r : Result (Unit {0}) Stop). FileStops r (used a b)) c.in-Ok.is c.read_listed-done.ensures.stops) c.read_control.ensures.ends

pub returns-in-Ok-clause-did : goal.returns-in-Ok-clause-did
returns-in-Ok-clause-did g c =
    let start = g.B.Asked.start in
    let a = g.S.Shelf.seen c.args.shelf.now in
    let b = g.S.Shelf.seen c.read_listed-done.new.shelf in
    let v = own_of c.args.seat.now.pass in
    let w = own_of c.read_listed-done.new.seat.pass in
    let e = g.E.Sink.seen c.args.err.now in
    caller_end start (used (g.C.Source.seen c.args.control.now) (g.C.Source.seen c.read_control.new.control)) v w (own_of c.read_control.new.seat.pass)
    c.read_control.result a b (g.S.Shelf.seen c.read_control.new.shelf) e e (g.E.Sink.seen c.read_control.new.err)
    c.read_listed-done.ensures.shelf.files
    (subst (λ (r : Result (Unit {0}) Stop). FileStops r (used a b)) c.in-Ok.is c.read_listed-done.ensures.stops)
    refl
    (subst (λ (r : Result (Unit {0}) Stop). IfSome a.files (λ files. Orders r (rereads files (jobs_known start v)) v w)) c.in-Ok.is c.read_listed-done.ensures.orders)
    c.read_control.ensures.did

pub returns-in-Err-clause-ends : goal.returns-in-Err-clause-ends
returns-in-Err-clause-ends g c =
    let s = g.C.Source.seen c.args.control.now in
    let shelf = used (g.S.Shelf.seen c.args.shelf.now) (g.S.Shelf.seen c.read_listed-done.new.shelf) in
    let e = g.E.Sink.seen c.args.err.now in
    subst (λ (end : RunEnd). EndsSo end shelf (used e e) (used s s)) (sym c.end_of.ensures)
    (ends_stopped c.in-Err.stop shelf (used e e) (used s s) (omega arith) refl refl (stops_is c.read_listed-done.result c.in-Err.stop shelf c.in-Err.is c.read_listed-done.ensures.stops))

pub returns-in-Err-clause-did : goal.returns-in-Err-clause-did
returns-in-Err-clause-did g c =
    let start = g.B.Asked.start in
    let a = g.S.Shelf.seen c.args.shelf.now in
    let b = g.S.Shelf.seen c.read_listed-done.new.shelf in
    let v = own_of c.args.seat.now.pass in
    let w = own_of c.read_listed-done.new.seat.pass in
    let s = g.C.Source.seen c.args.control.now in
    let e = g.E.Sink.seen c.args.err.now in
    stopped_did start (used s s) v w w c.in-Err.stop c.end_of.result a b e e c.end_of.ensures refl
    (stops_is c.read_listed-done.result c.in-Err.stop (used a b) c.in-Err.is c.read_listed-done.ensures.stops)
    (subst (λ (r : Result (Unit {0}) Stop). IfSome a.files (λ files. Orders r (rereads files (jobs_known start v)) v w)) c.in-Err.is c.read_listed-done.ensures.orders)
