use Rattle.std.proofs.Common.{◌≡◌, vec_len}
use Rattle.std.specs.Prelude.{All, IfSome}
use Rattle.turn_lock.specs.Passes.{own_of}
use Rattle.outside.specs.Objects.{used}
use Rattle.run_lock.specs.Listed.{IsListed}
use Rattle.run_lock.specs.Seats.{IsOwn}
use Rattle.station.specs.Ends.{IsSame, ShelfWent}
use Rattle.station.proofs.OrderLemmas.{HasReread}
use Rattle.station.proofs.orders.read_backwards.Given as goal

abbrev pub invariant-loop-one : goal.invariant-loop-one
invariant-loop-one g l = record {
  fit : All IsListed l.listed.items;
  lock : l.seat.lock ≡ l.fn.seat.lock;
  seat : IsOwn l.seat.lock.now 0 l.seat.pass;
  shelf : ShelfWent (used (g.S.Shelf.seen l.fn.shelf) (g.S.Shelf.seen l.shelf));
  calm : IsSame (g.S.Shelf.seen l.fn.shelf).faults (g.S.Shelf.seen l.shelf).faults;
  orders : IfSome (g.S.Shelf.seen l.fn.shelf).files (λ files. HasReread files l.fn.listed.items l.listed.items (own_of l.fn.seat.pass) (own_of l.seat.pass));
}

abbrev pub decreases-loop-one : goal.decreases-loop-one
decreases-loop-one g l = vec_len l.listed
