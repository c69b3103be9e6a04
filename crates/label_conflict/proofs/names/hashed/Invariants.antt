use Rattle.std.proofs.Common.{take}
use Rattle.std.specs.Prelude.{map}
use Rattle.label_set.specs.Borrowed.{pair_of}
use Rattle.label_conflict.specs.Names.{AreNames}
use Rattle.label_conflict.proofs.names.hashed.Given as goal

abbrev pub invariant-loop-label : goal.invariant-loop-label
invariant-loop-label l = AreNames l.names.keys (map pair_of (take l.label-index l.labels))
