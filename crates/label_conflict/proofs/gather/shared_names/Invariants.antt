use Rattle.std.proofs.Common.{◌≡◌, take}
use Rattle.std.specs.Prelude.{map, filter, ◌&&◌}
use Rattle.label_set.specs.Borrowed.{pair_of}
use Rattle.label_set.specs.declared.texts.Pair.{Pair}
use Rattle.label_conflict.specs.Merging.{has_value, bears}
use Rattle.label_conflict.proofs.gather.shared_names.Given as goal

abbrev pub invariant-loop-label : goal.invariant-loop-label
invariant-loop-label l = map pair_of l.out.items ≡ filter (λ (p : Pair). has_value p && bears l.others p.name) (map pair_of (take l.label-index l.labels))
