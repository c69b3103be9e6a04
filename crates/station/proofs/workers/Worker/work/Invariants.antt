use Rattle.std.proofs.Common.{◌≡◌, ◌+◌}
use Rattle.run_lock.specs.Seats.{IsOwn}
use Rattle.station.specs.Crews.{HasWorked}
use Rattle.station.proofs.workers.Worker.work.Given as goal

abbrev pub invariant-loop : goal.invariant-loop
invariant-loop g l = record {
  can : (goal.iterator-loop g).can_next l.iterator';
  finite : (goal.iterator-loop g).is_finite l.iterator';
  lock : l.seat.lock ≡ l.fn.self.seat.lock;
  seat : IsOwn l.seat.lock.now (2 + l.place) l.seat.pass;
  worked : HasWorked l.place (g.F.Fetch.seen l.fn.self.fetcher) (g.F.Fetch.seen l.fetcher) l.seat.pass;
}
