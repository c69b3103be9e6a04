use Rattle.std.proofs.Common.{◌≡◌}
use Rattle.turn_lock.specs.Passes.{number_of, IsIdle, IsPassOf}
use Rattle.tests_running.proofs.turns.follow.Given as goal

abbrev pub invariant-loop : goal.invariant-loop
invariant-loop g l = IsPassOf l.lock l.pass × IsIdle l.pass × (number_of l.pass ≡ number_of l.initial.pass)
