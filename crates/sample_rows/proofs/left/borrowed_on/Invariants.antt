use Rattle.std.proofs.Common.{◌≡◌, take}
use Rattle.std.specs.Prelude.{map}
use Rattle.label_set.specs.Borrowed.{pair_of}
use Rattle.sample_rows.proofs.left.borrowed_on.Given as goal

abbrev pub invariant-loop-label : goal.invariant-loop-label
invariant-loop-label l = map pair_of l.borrowed.items ≡ take l.label-index l.labels
