use Rattle.std.proofs.Common.{take, map}
use Rattle.std.specs.List.{list_any}
use Rattle.life_roll.specs.Seats.{IsSeats}
use Rattle.life_roll.specs.Wants.{found}
use Rattle.life_roll.specs.Rolls as spec
use Rattle.life_roll.proofs.lives.open_seats.Given as goal

abbrev pub invariant-loop-life : goal.invariant-loop-life
invariant-loop-life l =
    IsSeats l.seats (λ job identity. list_any (spec.is_open_at job identity) (map (spec.life_after l.moment (found l.wishes)) (take l.life-index l.lives)))
