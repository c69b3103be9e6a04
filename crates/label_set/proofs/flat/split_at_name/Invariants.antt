use Rattle.std.proofs.Common.{length}
use Rattle.label_set.proofs.SplitLemmas.{Split}
use Rattle.label_set.proofs.flat.split_at_name.Given as goal

abbrev pub invariant-loop-label : goal.invariant-loop-label
invariant-loop-label l = Split l.bytes l.name l.rest

abbrev pub decreases-loop-label : goal.decreases-loop-label
decreases-loop-label l = length l.rest
