use Rattle.label_conflict.proofs.NameLemmas.{under_next}
use Rattle.label_conflict.proofs.gather.renamed.Goals as goal

pub loop-place-preserved : goal.loop-place-preserved
loop-place-preserved c =
    under_next c.args.names.now c.args.labels.now c.loop-place.place c.index-names-place.result _ c.as_str-name.result c.loop-place.out.items c.push.new.self.items c.requires c.loop-place-test.true
    c.index-names-place.is c.as_str-name.ensures c.loop-place.invariant c.in_ok-push.ensures.items
