use Rattle.std.proofs.Common.{◌≡◌, ◌+◌, ◌≤◌, length}
use Rattle.label_set.specs.Flat.{labels_of, IsFlat}
use Rattle.label_set.proofs.flat.count.Given as goal

abbrev pub invariant-loop-rest : goal.invariant-loop-rest
invariant-loop-rest l = record {
  flat : IsFlat l.rest;
  all : l.labels + length (labels_of l.rest) ≡ length (labels_of l.bytes);
  fits : l.labels + length l.rest ≤ length l.bytes;
}

abbrev pub decreases-loop-rest : goal.decreases-loop-rest
decreases-loop-rest l = length l.rest
