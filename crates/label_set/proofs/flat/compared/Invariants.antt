use Rattle.std.proofs.Common.{◌≡◌, length}
use Rattle.label_set.specs.Sets.{set_cmp}
use Rattle.label_set.specs.Flat.{labels_of, IsFlat}
use Rattle.label_set.proofs.flat.compared.Given as goal

abbrev pub invariant-loop-ours : goal.invariant-loop-ours
invariant-loop-ours l = record {
  ours : IsFlat l.ours;
  theirs : IsFlat l.theirs;
  order : set_cmp (labels_of l.ours) (labels_of l.theirs) ≡ set_cmp (labels_of l.left) (labels_of l.right);
}

abbrev pub decreases-loop-ours : goal.decreases-loop-ours
decreases-loop-ours l = length l.ours
