use Rattle.std.proofs.Common.{◌≡◌, ◌+◌}
use mathlib.Core.List.{IsPrefix}
use Rattle.turn_lock.specs.Passes.{own_of, seen_by}
use Rattle.run_lock.specs.Seats.{IsOwn}
use Rattle.run_lock.proofs.seat.Seat.next_task.Given as goal

abbrev pub invariant-loop : goal.invariant-loop
invariant-loop g l = record {
  can : (goal.iterator-loop g).can_next l.iterator';
  finite : (goal.iterator-loop g).is_finite l.iterator';
  lock : l.self.lock ≡ l.fn.self.lock;
  seat : IsOwn l.self.lock.now (2 + l.place) l.self.pass;
  seen : IsPrefix (seen_by l.fn.self.pass) (seen_by l.self.pass);
  own : own_of l.self.pass ≡ own_of l.fn.self.pass;
}
