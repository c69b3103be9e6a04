use Rattle.std.proofs.Common.{◌≡◌, ◌++◌, ◌+◌, ◌≤◌, length, vec_len, vec_capacity}
use Rattle.std.specs.List.{SameBelow}
use Rattle.label_set.specs.SetText.{labels_after, other_labels}
use Rattle.label_set.proofs.print.push_labels.Given as goal

abbrev pub invariant-loop-label : goal.invariant-loop-label
invariant-loop-label l = record {
  written : l.text.items ++ labels_after (other_labels l.label-iterator) ≡ l.fn.text.items ++ labels_after (other_labels l.fn.labels);
  len : vec_len l.text + length (labels_after (other_labels l.label-iterator)) ≡ vec_len l.fn.text + length (labels_after (other_labels l.fn.labels));
  longer : vec_len l.fn.text ≤ vec_len l.text;
  front : SameBelow l.fn.text.items l.text.items (vec_len l.fn.text);
  capacity : vec_capacity l.fn.text ≤ vec_capacity l.text;
}
