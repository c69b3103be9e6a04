use Rattle.std.proofs.Common.{◌∙◌, ap, refl, subst}
use Rattle.std.specs.Prelude.{Option, Result, Ok, IfSome}
use Rattle.control_lines.specs.declared.messages.Refusal.{Refusal}
use Rattle.turn_lock.specs.Passes.{own_of}
use Rattle.run_lock.specs.Callers.{jobs_known}
use Rattle.station.specs.Control.{Does, line_does}
use Rattle.station.specs.declared.ends.Stop.{Stop}
use Rattle.station.proofs.OrderLemmas.{if_map, line_said, line_stopped}
use Rattle.station.proofs.orders.do_line.Goals as goal

pub returns-in-Ok-Some-clause-did : goal.returns-in-Ok-Some-clause-did
returns-in-Ok-Some-clause-did g c =
    let o = (g.S.Shelf.seen c.args.shelf.now).files in
    let v = own_of c.args.seat.now.pass in
    let w = own_of c.do_command-done.new.seat.pass in
    let jobs = jobs_known g.B.Asked.start v in
    let n = c.args.number in
    let line = c.args.line.now in
    if_map o (λ files h. line_said c.refuse.result files jobs n line c.in-Ok-Some.refusal v w (g.E.Sink.seen c.args.err.now) (g.E.Sink.seen c.refuse.new.err) h c.refuse.ensures.stops c.refuse.ensures.said)
    (subst (λ (r : Result (Option Refusal) Stop). IfSome o (λ files. Does r (line_does files jobs line) v w)) (c.in-Ok-Some.is ∙ ap Ok c.in-Ok-Some.field-0-is) c.do_command-done.ensures.does)

pub returns-in-Err-clause-did : goal.returns-in-Err-clause-did
returns-in-Err-clause-did g c =
    let o = (g.S.Shelf.seen c.args.shelf.now).files in
    let v = own_of c.args.seat.now.pass in
    let w = own_of c.do_command-done.new.seat.pass in
    let jobs = jobs_known g.B.Asked.start v in
    let n = c.args.number in
    let line = c.args.line.now in
    let e = g.E.Sink.seen c.args.err.now in
    if_map o (λ files h. line_stopped c.in-Err.stop files jobs n line v w e e refl h)
    (subst (λ (r : Result (Option Refusal) Stop). IfSome o (λ files. Does r (line_does files jobs line) v w)) c.in-Err.is c.do_command-done.ensures.does)
