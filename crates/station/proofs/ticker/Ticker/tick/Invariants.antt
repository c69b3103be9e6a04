use Rattle.std.proofs.Common.{◌≡◌}
use Rattle.run_lock.specs.Seats.{IsOwn}
use Rattle.turn_lock.specs.Passes.{own_of}
use Rattle.station.specs.Crews.{HasTicked}
use Rattle.station.proofs.ticker.Ticker.tick.Given as goal

abbrev pub invariant-loop-turn : goal.invariant-loop-turn
invariant-loop-turn g l = record {
  lock : l.seat.lock ≡ l.fn.self.seat.lock;
  seat : IsOwn l.seat.lock.now 1 l.seat.pass;
  ticked : HasTicked l._turn (g.K.Clock.seen l.fn.self.clock) (g.K.Clock.seen l.clock) (own_of l.seat.pass);
}
