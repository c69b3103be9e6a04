use Rattle.std.proofs.Common.{◌≡◌, ◌++◌, take}
use Rattle.std.specs.Prelude.{map}
use Rattle.label_set.specs.Borrowed.{pair_of}
use Rattle.label_conflict.specs.Merging.{apart_from}
use Rattle.label_conflict.proofs.gather.push_apart.Given as goal

abbrev pub invariant-loop-label : goal.invariant-loop-label
invariant-loop-label l = map pair_of l.out.items ≡ map pair_of l.fn.out.items ++ apart_from l.others (map pair_of (take l.label-index l.labels))
