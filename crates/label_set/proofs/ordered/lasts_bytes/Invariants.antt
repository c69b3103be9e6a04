use Rattle.std.proofs.Common.{drop}
use Rattle.std.specs.Prelude.{map}
use Rattle.label_set.specs.Named.{named_pair}
use Rattle.label_set.proofs.LastsLemmas.{Picked}
use Rattle.label_set.proofs.ordered.lasts_bytes.Given as goal

abbrev pub invariant-loop-place : goal.invariant-loop-place
invariant-loop-place l = Picked l.bytes.items (map named_pair (drop l.place l.sorted)) (map named_pair l.sorted)
