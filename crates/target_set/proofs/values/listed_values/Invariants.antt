use Rattle.std.proofs.Common.{◌≡◌, List, ℕ, take}
use Rattle.target_set.specs.Values.{HasListed}
use Rattle.target_set.proofs.values.listed_values.Given as goal

abbrev pub invariant-loop-param : goal.invariant-loop-param
invariant-loop-param l = HasListed l.values (take l.param-index l.params)
