use Rattle.std.proofs.Common.{◌≡◌, take}
use Rattle.std.specs.Prelude.{map}
use Rattle.label_set.specs.Flat.{flat, AreLabels}
use Rattle.label_set.specs.Borrowed.{pair_of}
use Rattle.label_set.proofs.flat.flat_bytes.Given as goal

abbrev pub invariant-loop-label : goal.invariant-loop-label
invariant-loop-label l = record {
  bytes : l.bytes.items ≡ flat (map pair_of (take l.label-index l.labels));
  labels : AreLabels (map pair_of (take l.label-index l.labels));
}
