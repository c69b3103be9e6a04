use Rattle.std.proofs.Common.{◌≡◌, ◌++◌}
use Rattle.label_conflict.specs.Merging as spec
use Rattle.label_conflict.specs.Names.{bare}
use Rattle.label_conflict.proofs.FreeLemmas.{reach, free_from}
use Rattle.label_conflict.proofs.free.free_name.Given as goal

abbrev pub invariant-loop-alloc : goal.invariant-loop-alloc
invariant-loop-alloc l = spec.free_name (l.labels ++ bare l.renamed.keys) l.name ≡ free_from (l.labels ++ bare l.renamed.keys) l.free

abbrev pub decreases-loop-alloc : goal.decreases-loop-alloc
decreases-loop-alloc l = reach (l.labels ++ bare l.renamed.keys) l.free
