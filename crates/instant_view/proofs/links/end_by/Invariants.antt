use Rattle.std.proofs.Common.{List, length}
use Rattle.label_set.specs.declared.texts.Pair.{Pair}
use Rattle.instant_view.specs.Threads.{IsBackTo, IsLastOf}
use Rattle.instant_view.proofs.links.end_by.Given as goal

abbrev pub invariant-loop-end : goal.invariant-loop-end
invariant-loop-end l = (series : List Pair) → IsLastOf l.kept series (length l.kept) l.fn.end → IsBackTo l.kept series l.moment l.end

abbrev pub decreases-loop-end : goal.decreases-loop-end
decreases-loop-end l = l.end
