use Rattle.label_set.proofs.FlatLemmas.{nothing, IsFlatSet-empty}
use Rattle.label_set.proofs.sets.LabelSet.empty.Goals as goal

pub invariant_of-result : goal.invariant_of-result
invariant_of-result c = IsFlatSet-empty

pub returns : goal.returns
returns c = nothing
