use Rattle.std.proofs.Common.{◌≡◌, ◌≤◌, ◌+◌, vec_len}
use Rattle.turn_lock.specs.Passes.{own_of}
use Rattle.outside.specs.Objects.{used}
use Rattle.station.specs.Ends.{IsSame, ShelfWent, SinkWent, SourceWent}
use Rattle.run_lock.specs.Seats.{IsOwn}
use Rattle.station.proofs.EatenLemmas.{HasEaten}
use Rattle.station.proofs.control.read_control.Given as goal

abbrev pub invariant-loop : goal.invariant-loop
invariant-loop g l = record {
  can : (goal.iterator-loop g).can_next l.iterator';
  finite : (goal.iterator-loop g).is_finite l.iterator';
  lock : l.seat.lock ≡ l.fn.seat.lock;
  seat : IsOwn l.seat.lock.now 0 l.seat.pass;
  room : vec_len l.room ≡ 4096;
  few : l.given ≤ 1048576;
  given : (g.C.Source.seen l.control).given ≡ (g.C.Source.seen l.fn.control).given + l.given;
  shelf : ShelfWent (used (g.S.Shelf.seen l.fn.shelf) (g.S.Shelf.seen l.shelf));
  err : SinkWent (used (g.E.Sink.seen l.fn.err) (g.E.Sink.seen l.err));
  control : SourceWent (used (g.C.Source.seen l.fn.control) (g.C.Source.seen l.control));
  calm : IsSame (g.S.Shelf.seen l.fn.shelf).faults (g.S.Shelf.seen l.shelf).faults × IsSame (g.E.Sink.seen l.fn.err).faults (g.E.Sink.seen l.err).faults × IsSame (g.C.Source.seen l.fn.control).faults (g.C.Source.seen l.control).faults;
  before : l.reader.before ≤ l.given;
  eaten : HasEaten (g.S.Shelf.seen l.fn.shelf).files g.B.Asked.start l.given l.reader (g.C.Source.seen l.fn.control).left (g.C.Source.seen l.control).left (own_of l.fn.seat.pass) (own_of l.seat.pass) (used (g.E.Sink.seen l.fn.err) (g.E.Sink.seen l.err));
}
