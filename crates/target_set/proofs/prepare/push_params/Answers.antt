use Rattle.target_set.proofs.OverlayLemmas.{params_next}
use Rattle.target_set.proofs.prepare.push_params.Goals as goal

pub loop-done-preserved : goal.loop-done-preserved
loop-done-preserved c =
    params_next c.args.params.now c.loop-done.done c.index-params-count.result c.args.out.now.items c.loop-done.out.items c.push_first.new.out.items c.loop-done-test.true c.index-params-count.is
    c.loop-done.invariant c.in_ok-push_first.ensures
