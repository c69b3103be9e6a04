use Rattle.std.proofs.Common.{◌≤◌, ◌+◌, length}
use Rattle.om_reader.specs.Forms.{labels_at}
use Rattle.om_reader.proofs.LabelLemmas.{HasAdded}
use Rattle.om_reader.proofs.labels.push_labels.Given as goal

abbrev pub invariant-loop-rest : goal.invariant-loop-rest
invariant-loop-rest l = record {
  known : HasAdded l.fn.room l.room l.left (labels_at (length l.text + 1) l.text);
  shorter : length l.left ≤ length l.text;
}

abbrev pub decreases-loop-rest : goal.decreases-loop-rest
decreases-loop-rest l = length l.left
