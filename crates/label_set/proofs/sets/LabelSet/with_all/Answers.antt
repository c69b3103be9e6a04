use Rattle.std.proofs.Common.{rules}
use Rattle.label_set.proofs.OfLemmas.{more_labels}
use Rattle.label_set.proofs.sets.LabelSet.with_all.Goals as goal

pub returns : goal.returns
returns c =
    let all = more_labels c.args.self.now _ c.in_ok-all.all.items c.args.labels.now c.in_ok-all.ensures.set c.in_ok-extend_from_slice.ensures.items c.in_ok-all.ensures.labels in
    search (rules, all)
