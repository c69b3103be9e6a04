use Rattle.target_set.proofs.DistinctLemmas.{kept_more, kept_all}
use Rattle.target_set.proofs.kept.identities.Goals as goal

pub loop-outcome-preserved : goal.loop-outcome-preserved
loop-outcome-preserved c =
    kept_more c.args.outcomes.now c.loop-outcome.outcome-index c.outcome-item.result c.loop-outcome.seen.keys c.add.new.seen.keys c.loop-outcome-test.true c.outcome-item.is
    c.loop-outcome.invariant c.in_ok-add.ensures

pub returns : goal.returns
returns c = kept_all c.args.outcomes.now c.loop-outcome.outcome-index c.loop-outcome.seen.keys c.loop-outcome-test.false c.loop-outcome.invariant
