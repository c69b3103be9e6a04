use Rattle.std.proofs.Common.{rules}
use Rattle.label_set.proofs.LastsLemmas.{picked_none, named_more}
use Rattle.label_set.proofs.ordered.lasts_bytes.Goals as goal

pub loop-place-init : goal.loop-place-init
loop-place-init c = picked_none _ _ (search rules)

pub loop-place-preserved : goal.loop-place-preserved
loop-place-preserved c =
    named_more c.loop-place.bytes.items c.push_label.new.bytes.items c.args.sorted.now c.loop-place.place _ c.begins_with_name.result c.is_empty.result c.loop-place-test.true c.loop-place.invariant c.begins_with_name.ensures c.if-begins_with_name.false c.is_empty.ensures c.if-is_empty.false c.in_ok-push_label.ensures.bytes c.in_ok-push_label.ensures.label
