use Rattle.std.proofs.Common.{◌≡◌}
use Rattle.std.specs.Prelude.{slice_get}
use Rattle.label_set.proofs.labels.Labels.at.Given as goal

abbrev pub invariant-loop-label : goal.invariant-loop-label
invariant-loop-label l = slice_get l.label-iterator l.left ≡ slice_get l.fn.self l.fn.place
