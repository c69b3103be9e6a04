use Rattle.std.proofs.Common.{rules}
use Rattle.label_set.specs.Borrowed.{pair_of}
use Rattle.label_set.proofs.SplitLemmas.{made_with}
use Rattle.label_set.proofs.sets.LabelSet.with_some.Goals as goal

pub from_bytes-requires : goal.from_bytes-requires
from_bytes-requires c =
    rw (c.in_ok-extend_from_slice-2.ensures.items, c.in_ok-push_label.ensures.bytes, c.in_ok-extend_from_slice.ensures.items, c.in_ok-bytes.ensures.items, c.split_at_name.ensures.below, c.split_at_name.ensures.above) (made_with c.bytes.result.now (pair_of c.args.label) c.bytes.ensures.set c.in_ok-push_label.ensures.label c.requires).set

pub returns : goal.returns
returns c =
    let labels = (made_with c.bytes.result.now (pair_of c.args.label) c.bytes.ensures.set c.in_ok-push_label.ensures.label c.requires).labels in
    search (rules, labels)
