use Rattle.std.proofs.Common.{◌==◌, length, ap, ◌∙◌}
use Rattle.label_set.proofs.FlatLemmas.{some_alike}
use Rattle.label_set.proofs.sets.LabelSet.is_empty.Goals as goal

pub returns : goal.returns
returns c =
    c.is_empty.ensures ∙ some_alike c.bytes.result.now c.bytes.ensures.set.flat ∙ ap (λ ps. length ps == 0) c.bytes.ensures.labels
