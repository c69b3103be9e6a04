use Rattle.std.proofs.Common.{◌∙◌}
use Rattle.std.proofs.lemmas.Iterator.Adapters.{YieldsList-from_vec}
use Rattle.std.proofs.lemmas.Iterator.Consumers.{YieldsList-so_far, YieldsList-turn}
use Rattle.jobs_in_force.proofs.ListedLemmas.{load_most}
use Rattle.jobs_in_force.proofs.loads.in_force_all.Goals as goal

pub returns-in_err-job-clause-at_most : goal.returns-in_err-job-clause-at_most
returns-in_err-job-clause-at_most g c =
    let gives = c.into_iter-one-iterator.ensures.into_iter_gives in
    let list = YieldsList-from_vec {s = c.into_iter-one-iterator.result} c.args.filed.items gives.0 (gives.1 ∙ c.args.filed.ok.0) in
    let turn = YieldsList-turn list c.loop-one.yielded c.loop-one.one-iterator c.loop-one.yielded_by c.next.result c.next.new.self c.in-Some.one c.in-Some.is c.next.ensures.steps in
    load_most c.args.filed.items c.loop-one.yielded c.in-Some.one c.loop-one.jobs.items _ _ _
    (YieldsList-so_far list c.loop-one.yielded c.loop-one.one-iterator c.loop-one.yielded_by) turn.0 turn.1
    c.loop-one.invariant.jobs c.loop-one.invariant.steps c.in_force.ensures.at_most
