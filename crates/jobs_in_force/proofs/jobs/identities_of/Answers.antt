use Rattle.jobs_in_force.proofs.IndexLemmas.{indexed_more}
use Rattle.jobs_in_force.proofs.jobs.identities_of.Goals as goal

pub loop-target-preserved : goal.loop-target-preserved
loop-target-preserved c =
    indexed_more c.args.targets.now c.loop-target.target-index c.target-item.result c.loop-target.identities.keys c.insert.new.self.keys c.in_ok-copy.field-0
    c.loop-target-test.true c.target-item.is c.loop-target.invariant c.in_ok-copy.ensures c.in_ok-insert.ensures.keys
