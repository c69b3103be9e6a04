use Rattle.std.proofs.Common.{◌≡◌, take}
use Rattle.std.specs.Prelude.{map}
use Rattle.label_set.specs.Borrowed.{pair_of}
use Rattle.label_conflict.specs.Names.{under}
use Rattle.label_conflict.proofs.gather.renamed.Given as goal

abbrev pub invariant-loop-place : goal.invariant-loop-place
invariant-loop-place l = map pair_of l.out.items ≡ under (take l.place l.names) (map pair_of (take l.place l.labels))
