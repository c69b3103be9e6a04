use Rattle.std.proofs.Common.{◌≡◌, ◌++◌}
use Rattle.std.specs.Prelude.{filter, map}
use Rattle.label_set.specs.Borrowed.{pair_of}
use Rattle.relabel.specs.Effects.{stays}
use Rattle.relabel.proofs.kept.kept_labels.Given as goal

abbrev pub invariant-loop-label : goal.invariant-loop-label
invariant-loop-label l =
    (l.matching ≡ l.fn.matching)
    × (map pair_of l.out.items ++ filter (stays l.keep l.fn.matching) l.label-iterator ≡ filter (stays l.keep l.fn.matching) l.fn.set)
