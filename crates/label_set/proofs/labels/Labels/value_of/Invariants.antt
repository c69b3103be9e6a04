use Rattle.std.proofs.Common.{◌≡◌}
use Rattle.label_set.specs.Sets.{value_of}
use Rattle.label_set.proofs.labels.Labels.value_of.Given as goal

abbrev pub invariant-loop-label : goal.invariant-loop-label
invariant-loop-label l = value_of l.label-iterator l.name ≡ value_of l.fn.self l.name
