use Rattle.std.proofs.Common.{◌≡◌, take, map, filter, not}
use Rattle.life_roll.specs.declared.wanted.Wanted.{Wanted}
use Rattle.life_roll.specs.Seats.{has_seat}
use Rattle.life_roll.specs.Rolls as spec
use Rattle.life_roll.proofs.lives.begun.Given as goal

abbrev pub invariant-loop-entry : goal.invariant-loop-entry
invariant-loop-entry l =
    l.lives.items ≡ map (spec.begun_life l.moment) (filter (λ (w : Wanted). not (has_seat l.taken w.job w.identity)) (take l.entry-index l.wanted))
