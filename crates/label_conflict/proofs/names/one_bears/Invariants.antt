use Rattle.std.proofs.Common.{◌≡◌, drop}
use Rattle.std.specs.Prelude.{map}
use Rattle.label_set.specs.Borrowed.{pair_of}
use Rattle.label_conflict.specs.Merging.{bears}
use Rattle.label_conflict.proofs.names.one_bears.Given as goal

abbrev pub invariant-loop-label : goal.invariant-loop-label
invariant-loop-label l = bears (map pair_of (drop l.label-index l.labels)) l.name ≡ bears (map pair_of l.labels) l.name
