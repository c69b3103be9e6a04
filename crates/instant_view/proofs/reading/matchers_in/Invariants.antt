use Rattle.std.proofs.Common.{◌+◌, length}
use Rattle.instant_view.specs.Forms.{matchers_in}
use Rattle.instant_view.proofs.StepLemmas.{HasAdded}
use Rattle.instant_view.proofs.reading.matchers_in.Given as goal

abbrev pub invariant-loop-rest : goal.invariant-loop-rest
invariant-loop-rest l = HasAdded l.fn.matchers.items l.matchers.items l.left (matchers_in (length l.text + 1) l.text)

abbrev pub decreases-loop-rest : goal.decreases-loop-rest
decreases-loop-rest l = length l.left
