use Rattle.turn_lock.specs.Passes.{own_of}
use Rattle.std.proofs.Common.{◌+◌, ℕ, List, refl, subst}
use Rattle.std.specs.Prelude.{IfSome, Result, Ok, Err}
use Rattle.run_lock.specs.Callers.{jobs_known}
use Rattle.outside.specs.Objects.{used}
use Rattle.station.specs.Control.{HasDone, DoesSo, line_did}
use Rattle.station.specs.declared.ends.Stop.{Stop}
use Rattle.station.proofs.ControlLemmas.{other_read, other_did, feed_read, feed_did}
use Rattle.station.proofs.OrderLemmas.{if_all, if_map, no_feed, a_feed}
use Rattle.station.proofs.control.do_byte.Goals as goal

pub returns-in-Ok-clause-read : goal.returns-in-Ok-clause-read
returns-in-Ok-clause-read g c = other_read c.args.reader.now _ c.args.byte (no_feed c.args.byte c.if-byte-ne10.true) c.in-Ok.ensures.items refl

pub returns-in-Ok-clause-did : goal.returns-in-Ok-clause-did
returns-in-Ok-clause-did g c =
    let e = g.E.Sink.seen c.args.err.now in
    let v = own_of c.args.seat.now.pass in
    if_all (g.S.Shelf.seen c.args.shelf.now).files (λ files. other_did files (jobs_known g.B.Asked.start v) c.args.reader.now c.args.byte v v e e (no_feed c.args.byte c.if-byte-ne10.true) refl refl)

pub returns-clause-read : goal.returns-clause-read
returns-clause-read g c = feed_read c.args.reader.now _ c.args.byte (a_feed c.args.byte c.if-byte-ne10.false) c.clear.ensures.items refl

pub returns-clause-did : goal.returns-clause-did
returns-clause-did g c =
    let o = (g.S.Shelf.seen c.args.shelf.now).files in
    let jobs = jobs_known g.B.Asked.start (own_of c.args.seat.now.pass) in
    let v = own_of c.args.seat.now.pass in
    let w = own_of c.do_line-done.new.seat.pass in
    let u = used (g.E.Sink.seen c.args.err.now) (g.E.Sink.seen c.do_line-done.new.err) in
    let n = c.args.reader.now.before + 1 in
    if_map o (λ files h. feed_did {A = Unit {0}} (Ok tt) files jobs c.args.reader.now c.args.byte v w u (a_feed c.args.byte c.if-byte-ne10.false) h)
    (subst (λ (line : List ℕ). IfSome o (λ files. HasDone (line_did files jobs n line) (used v w) u)) c.deref.ensures.value (subst (λ (r : Result (Unit {0}) Stop). IfSome o (λ files. DoesSo r (line_did files jobs n c.deref.result.now) (used v w) u)) c.in_default.is c.do_line-done.ensures.did))

pub returns-in-Err-done-clause-did : goal.returns-in-Err-done-clause-did
returns-in-Err-done-clause-did g c =
    let o = (g.S.Shelf.seen c.args.shelf.now).files in
    let v = own_of c.args.seat.now.pass in
    let w = own_of c.do_line-done.new.seat.pass in
    let jobs = jobs_known g.B.Asked.start v in
    let u = used (g.E.Sink.seen c.args.err.now) (g.E.Sink.seen c.do_line-done.new.err) in
    let n = c.args.reader.now.before + 1 in
    let d : Result (Unit {0}) Stop = Err c.in-Err-done.stop in
    if_map o (λ files h. feed_did d files jobs c.args.reader.now c.args.byte v w u (a_feed c.args.byte c.if-byte-ne10.false) h)
    (subst (λ (line : List ℕ). IfSome o (λ files. DoesSo d (line_did files jobs n line) (used v w) u)) c.deref.ensures.value
    (subst (λ (r : Result (Unit {0}) Stop). IfSome o (λ files. DoesSo r (line_did files jobs n c.deref.result.now) (used v w) u)) c.in-Err-done.is c.do_line-done.ensures.did))
