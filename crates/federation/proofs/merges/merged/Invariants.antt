use Rattle.std.proofs.Common.{◌+◌, vec_len}
use Rattle.std.specs.Prelude.{reverse}
use Rattle.instant_view.specs.Views.{AreRising}
use Rattle.federation.specs.Merges.{IsMerging}
use Rattle.federation.proofs.merges.merged.Given as goal

abbrev pub invariant-loop-row : goal.invariant-loop-row
invariant-loop-row l =
    AreRising l.fn.left.items → AreRising l.fn.right.items →
    IsMerging l.fn.left.items l.fn.right.items l.left.items l.right.items (reverse l.rows.items)

abbrev pub decreases-loop-row : goal.decreases-loop-row
decreases-loop-row l = vec_len l.left + vec_len l.right
