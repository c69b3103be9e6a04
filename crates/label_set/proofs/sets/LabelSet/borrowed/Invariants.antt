use Rattle.std.proofs.Common.{◌≡◌, ◌++◌}
use Rattle.std.specs.Prelude.{map}
use Rattle.label_set.specs.Borrowed.{pair_of}
use Rattle.label_set.proofs.sets.LabelSet.borrowed.Given as goal

abbrev pub invariant-loop-label : goal.invariant-loop-label
invariant-loop-label l = map pair_of l.labels.items ++ l.label-iterator ≡ l.fn.self
