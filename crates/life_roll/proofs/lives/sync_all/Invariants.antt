use Rattle.std.proofs.Common.{◌≡◌, ◌++◌, take, drop, map}
use Rattle.life_roll.specs.Wants.{found}
use Rattle.life_roll.specs.Rolls as spec
use Rattle.life_roll.proofs.lives.sync_all.Given as goal

abbrev pub invariant-loop-life : goal.invariant-loop-life
invariant-loop-life l =
    l.lives ≡ map (spec.life_after l.moment (found l.wishes)) (take l.life-index l.initial.lives) ++ drop l.life-index l.initial.lives
