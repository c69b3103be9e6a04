use Rattle.std.proofs.Common.{◌≡◌, take}
use Rattle.life_roll.specs.declared.seats.Seat.{Seat}
use Rattle.life_roll.specs.Wants as spec
use Rattle.life_roll.proofs.wanted.Wishes.of.Given as goal

abbrev pub invariant-loop-entry : goal.invariant-loop-entry
invariant-loop-entry l = (s : Seat) → spec.found l.wishes s ≡ spec.terms_at (take l.entry-index l.wanted) s
