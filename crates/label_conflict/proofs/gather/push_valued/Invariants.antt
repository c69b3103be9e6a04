use Rattle.std.proofs.Common.{◌≡◌, ◌++◌, take}
use Rattle.std.specs.Prelude.{map, filter}
use Rattle.label_set.specs.Borrowed.{pair_of}
use Rattle.label_conflict.specs.Merging.{has_value}
use Rattle.label_conflict.proofs.gather.push_valued.Given as goal

abbrev pub invariant-loop-label : goal.invariant-loop-label
invariant-loop-label l = map pair_of l.out.items ≡ map pair_of l.fn.out.items ++ filter has_value (map pair_of (take l.label-index l.labels))
