use Rattle.label_conflict.proofs.NameLemmas.{names_more}
use Rattle.label_conflict.proofs.names.hashed.Goals as goal

pub loop-label-preserved : goal.loop-label-preserved
loop-label-preserved c =
    names_more c.args.labels.now c.loop-label.label-index _ c.loop-label.names.keys c.insert.new.self.keys c.loop-label-test.true c.loop-label.invariant c.in_ok-insert.ensures.keys
