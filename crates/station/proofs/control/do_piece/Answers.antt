use Rattle.std.proofs.Common.{◌≡◌, ◌∙◌, ◌++◌, ◌∷◌, [], ◌+◌, ℕ, List, sym, ap, refl, subst, take, drop, arith}
use Rattle.std.specs.Prelude.{Option, IfSome, Ok, slice_index_or}
use Rattle.std.proofs.lemmas.List.{take_more, take-append-drop}
use Rattle.turn_lock.specs.Passes.{own_of}
use Rattle.outside.specs.Objects.{used}
use Rattle.outside.specs.declared.objects.StoredFile.{StoredFile}
use Rattle.run_lock.specs.Callers.{jobs_known}
use Rattle.station.specs.Control.{DoesSo, HasDone, HasRead, piece_did}
use Rattle.station.proofs.ControlLemmas.{read_none, read_both, piece_none, piece_both, piece_longer}
use Rattle.station.proofs.EndLemmas.{shelf_same, sink_same, shelf_then, sink_then, line_sound, line_stops_after}
use Rattle.station.proofs.OrderLemmas.{if_all, if_map, if_both, on_ok, does_ok}
use Rattle.station.proofs.control.do_piece.Goals as goal

pub loop-byte-init : goal.loop-byte-init
loop-byte-init g c =
    let v = own_of c.args.seat.now.pass in
    let e = g.E.Sink.seen c.args.err.now in
    record {
      lock = refl;
      seat = c.requires.seat;
      shelf = shelf_same (g.S.Shelf.seen c.args.shelf.now);
      err = sink_same e;
      shelf_calm = refl;
      err_calm = refl;
      few = omega arith;
      read = read_none c.args.reader.now c.args.reader.now refl;
      did = if_all (g.S.Shelf.seen c.args.shelf.now).files (λ files. piece_none files (jobs_known g.B.Asked.start v) c.args.reader.now v v e e refl refl);
    }

pub do_byte-done-requires-clause-few : goal.do_byte-done-requires-clause-few
do_byte-done-requires-clause-few g c = omega (arith, c.loop-byte.invariant.few, c.requires.few, c.loop-byte-test.true)

pub do_byte-done-requires-clause-seat : goal.do_byte-done-requires-clause-seat
do_byte-done-requires-clause-seat g c = c.loop-byte.invariant.seat

pub loop-byte-preserved : goal.loop-byte-preserved
loop-byte-preserved g c =
    let start = g.B.Asked.start in
    let o = (g.S.Shelf.seen c.args.shelf.now).files in
    let was = c.loop-byte.invariant in
    let v = own_of c.args.seat.now.pass in
    let w = own_of c.loop-byte.seat.pass in
    let u = own_of c.do_byte-done.new.seat.pass in
    let r = c.args.reader.now in
    let s = c.loop-byte.reader in
    let t = c.do_byte-done.new.reader in
    let b = slice_index_or c.args.piece.now c.loop-byte.byte-index 0 in
    let xs = take c.loop-byte.byte-index c.args.piece.now in
    let e = g.E.Sink.seen c.args.err.now in
    let f = g.E.Sink.seen c.loop-byte.err in
    let h = g.E.Sink.seen c.do_byte-done.new.err in
    let sound = sym c.is_err.ensures.value ∙ c.if-is_err.false in
    let more : take (c.loop-byte.byte-index + 1) c.args.piece.now ≡ xs ++ b ∷ [] = take_more c.args.piece.now c.loop-byte.byte-index 0 c.loop-byte-test.true in
    record {
      lock = c.do_byte-done.ensures.lock ∙ was.lock;
      seat = c.do_byte-done.ensures.seat;
      shelf = shelf_then (g.S.Shelf.seen c.args.shelf.now) (g.S.Shelf.seen c.loop-byte.shelf) (g.S.Shelf.seen c.do_byte-done.new.shelf) was.shelf c.do_byte-done.ensures.shelf;
      err = sink_then e f h was.err c.do_byte-done.ensures.err;
      shelf_calm = (line_sound c.do_byte-done.result _ _ sound c.do_byte-done.ensures.stops).0 ∙ was.shelf_calm;
      err_calm = (line_sound c.do_byte-done.result _ _ sound c.do_byte-done.ensures.stops).1 ∙ was.err_calm;
      few = omega (arith, was.few, c.do_byte-done.ensures.few);
      read = subst (λ (ys : List ℕ). HasRead ys r t) (sym more) (read_both r s t xs (b ∷ []) was.read (on_ok c.do_byte-done.result sound c.do_byte-done.ensures.read));
      did = if_both o (λ files one next. subst (λ (ys : List ℕ). HasDone (piece_did files (jobs_known start v) r ys) (used v u) (used e h)) (sym more) (piece_both {A = Unit {0}} (Ok tt) files start r s xs (b ∷ []) v w u e f h was.read one next)) was.did
          (if_map o (λ files done. does_ok c.do_byte-done.result sound done)
          (subst (λ (p : Option (List StoredFile)). IfSome p (λ files. DoesSo c.do_byte-done.result (piece_did files (jobs_known start w) s (b ∷ [])) (used w u) (used f h))) was.shelf.files c.do_byte-done.ensures.did));
    }

pub returns-then-is_err-clause-err : goal.returns-then-is_err-clause-err
returns-then-is_err-clause-err g c = sink_then (g.E.Sink.seen c.args.err.now) (g.E.Sink.seen c.loop-byte.err) (g.E.Sink.seen c.do_byte-done.new.err) c.loop-byte.invariant.err c.do_byte-done.ensures.err

pub returns-then-is_err-clause-stops : goal.returns-then-is_err-clause-stops
returns-then-is_err-clause-stops g c =
    line_stops_after c.do_byte-done.result (g.S.Shelf.seen c.args.shelf.now) (g.S.Shelf.seen c.loop-byte.shelf) (g.S.Shelf.seen c.do_byte-done.new.shelf) (g.E.Sink.seen c.args.err.now) (g.E.Sink.seen c.loop-byte.err) (g.E.Sink.seen c.do_byte-done.new.err)
    c.loop-byte.invariant.shelf_calm c.loop-byte.invariant.err_calm c.do_byte-done.ensures.stops

pub returns-then-is_err-clause-did : goal.returns-then-is_err-clause-did
returns-then-is_err-clause-did g c =
    let start = g.B.Asked.start in
    let o = (g.S.Shelf.seen c.args.shelf.now).files in
    let was = c.loop-byte.invariant in
    let v = own_of c.args.seat.now.pass in
    let w = own_of c.loop-byte.seat.pass in
    let u = own_of c.do_byte-done.new.seat.pass in
    let r = c.args.reader.now in
    let s = c.loop-byte.reader in
    let b = slice_index_or c.args.piece.now c.loop-byte.byte-index 0 in
    let all = c.args.piece.now in
    let xs = take c.loop-byte.byte-index all in
    let e = g.E.Sink.seen c.args.err.now in
    let f = g.E.Sink.seen c.loop-byte.err in
    let h = g.E.Sink.seen c.do_byte-done.new.err in
    let d = c.do_byte-done.result in
    let fails = sym c.is_err.ensures.value ∙ c.if-is_err.true in
    let more : take (c.loop-byte.byte-index + 1) all ≡ xs ++ b ∷ [] = take_more all c.loop-byte.byte-index 0 c.loop-byte-test.true in
    let whole : (xs ++ b ∷ []) ++ drop (c.loop-byte.byte-index + 1) all ≡ all = ap (λ (ys : List ℕ). ys ++ drop (c.loop-byte.byte-index + 1) all) (sym more) ∙ take-append-drop (c.loop-byte.byte-index + 1) all in
    if_both o
    (λ files one next. subst (λ (ys : List ℕ). DoesSo d (piece_did files (jobs_known start v) r ys) (used v u) (used e h)) whole
    (piece_longer d files (jobs_known start v) r (xs ++ b ∷ []) (drop (c.loop-byte.byte-index + 1) all) v u (used e h) fails (piece_both d files start r s xs (b ∷ []) v w u e f h was.read one next)))
    was.did
    (subst (λ (p : Option (List StoredFile)). IfSome p (λ files. DoesSo d (piece_did files (jobs_known start w) s (b ∷ [])) (used w u) (used f h))) was.shelf.files c.do_byte-done.ensures.did)
