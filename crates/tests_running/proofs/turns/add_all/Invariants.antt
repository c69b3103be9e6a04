use Rattle.std.proofs.Common.{◌≡◌}
use Rattle.turn_lock.specs.Passes.{number_of, IsIdle, IsPassOf}
use Rattle.tests_running.proofs.turns.add_all.Given as goal

abbrev pub invariant-loop-item : goal.invariant-loop-item
invariant-loop-item g l = IsPassOf l.lock l.pass × IsIdle l.pass × (number_of l.pass ≡ l.by)
