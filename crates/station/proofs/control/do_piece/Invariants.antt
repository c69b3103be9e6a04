use Rattle.std.proofs.Common.{◌≡◌, ◌≤◌, ◌+◌, take}
use Rattle.std.specs.Prelude.{IfSome}
use Rattle.turn_lock.specs.Passes.{own_of}
use Rattle.outside.specs.Objects.{used}
use Rattle.run_lock.specs.Callers.{jobs_known}
use Rattle.run_lock.specs.Seats.{IsOwn}
use Rattle.station.specs.Control.{HasDone, HasRead, piece_did}
use Rattle.station.specs.Ends.{IsSame, ShelfWent, SinkWent}
use Rattle.station.proofs.control.do_piece.Given as goal

abbrev pub invariant-loop-byte : goal.invariant-loop-byte
invariant-loop-byte g l = record {
  lock : l.seat.lock ≡ l.fn.seat.lock;
  seat : IsOwn l.seat.lock.now 0 l.seat.pass;
  shelf : ShelfWent (used (g.S.Shelf.seen l.fn.shelf) (g.S.Shelf.seen l.shelf));
  err : SinkWent (used (g.E.Sink.seen l.fn.err) (g.E.Sink.seen l.err));
  shelf_calm : IsSame (g.S.Shelf.seen l.fn.shelf).faults (g.S.Shelf.seen l.shelf).faults;
  err_calm : IsSame (g.E.Sink.seen l.fn.err).faults (g.E.Sink.seen l.err).faults;
  few : l.reader.before ≤ l.fn.reader.before + l.byte-index;
  read : HasRead (take l.byte-index l.piece) l.fn.reader l.reader;
  did : IfSome (g.S.Shelf.seen l.fn.shelf).files (λ files.
      HasDone (piece_did files (jobs_known g.B.Asked.start (own_of l.fn.seat.pass)) l.fn.reader (take l.byte-index l.piece)) (used (own_of l.fn.seat.pass) (own_of l.seat.pass)) (used (g.E.Sink.seen l.fn.err) (g.E.Sink.seen l.err)));
}
