use Rattle.std.proofs.Common.{◌≡◌, List, ℕ}
use Rattle.std.specs.Option.{option_or}
use Rattle.target_set.specs.Requests.{set_value}
use Rattle.target_set.specs.Values.{found}
use Rattle.target_set.proofs.values.set_values.Given as goal

abbrev pub invariant-loop-label : goal.invariant-loop-label
invariant-loop-label l = (name : List ℕ) → option_or (found l.values name) (set_value l.label-iterator name) ≡ set_value l.identity name
