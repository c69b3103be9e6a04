use Rattle.label_set.proofs.SplitLemmas.{more_bytes}
use Rattle.label_set.proofs.flat.flat_bytes.Goals as goal

pub loop-label-preserved : goal.loop-label-preserved
loop-label-preserved c =
    let next = more_bytes _ _ _ _ _ c.loop-label-test.true c.loop-label.invariant.bytes c.loop-label.invariant.labels c.in_ok-push_label.ensures.bytes c.in_ok-push_label.ensures.label in
    record { bytes = next.0; labels = next.1 }
