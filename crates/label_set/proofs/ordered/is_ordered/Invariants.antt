use Rattle.std.proofs.Common.{◌≡◌, drop}
use Rattle.std.specs.Prelude.{map}
use Rattle.label_set.specs.Lasts.{is_ordered}
use Rattle.label_set.specs.Borrowed.{pair_of}
use Rattle.label_set.proofs.ordered.is_ordered.Given as goal

abbrev pub invariant-loop-place : goal.invariant-loop-place
invariant-loop-place l = is_ordered (map pair_of l.labels) ≡ is_ordered (map pair_of (drop l.place l.labels))
