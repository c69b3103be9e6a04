use Rattle.std.proofs.Common.{not}
use Rattle.label_set.proofs.SetLemmas.{IsSet-filter}
use Rattle.label_set.specs.declared.texts.Pair.{Pair}
use Rattle.target_set.specs.Outcomes.{begins_with}
use Rattle.target_set.proofs.outcomes.without_front.Goals as goal

pub from_labels-requires : goal.from_labels-requires
from_labels-requires c =
    rw (c.as_slice.ensures.value, c.in_ok-labels.ensures.labels) (IsSet-filter (λ (p : Pair). not (begins_with c.args.front.now p.name)) c.args.set.now c.in_ok-labels.ensures.set)
