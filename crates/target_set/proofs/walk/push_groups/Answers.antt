use Rattle.std.proofs.Common.{arith}
use Rattle.target_set.proofs.WalkLemmas.{counted_next}
use Rattle.target_set.proofs.walk.push_groups.Goals as goal

pub returns-in_err-push_group-clause-at_most : goal.returns-in_err-push_group-clause-at_most
returns-in_err-push_group-clause-at_most g c =
    let counted = counted_next c.args.groups.now c.loop-group.group-index c.group-item.result c.loop-group-test.true c.group-item.is in
    omega (arith, counted, c.in_err-push_group.ensures.at_most, c.loop-group.invariant.steps)
