use Rattle.jobs_in_force.specs.Jobs.{jobs_updated, renewed, updated_job}
use Rattle.jobs_in_force.specs.Listed.{named_count}
use Rattle.jobs_in_force.proofs.FewLemmas.{few_at}
use Rattle.jobs_in_force.proofs.ListedLemmas.{one_most}
use Rattle.jobs_in_force.proofs.updates.jobs_updated.Goals as goal

pub renewed-requires : goal.renewed-requires
renewed-requires g c =
    few_at (updated_job c.args.update.now.job c.args.update.now.file c.args.update.now.groups) c.args.jobs.now c.loop-job.job-index c.job-item.result c.loop-job-test.true c.job-item.is c.requires

pub returns-in_err-one-clause-at_most : goal.returns-in_err-one-clause-at_most
unfolding jobs_updated
returns-in_err-one-clause-at_most g c =
    let u = c.args.update.now in
    one_most (named_count u.job) (renewed u.job u.file u.groups) c.args.jobs.now c.loop-job.job-index c.job-item.result c.loop-job.news.items _ _ _ c.loop-job-test.true c.job-item.is
    c.loop-job.invariant.jobs c.loop-job.invariant.steps c.renewed.ensures.at_most

pub returns-in_err-push-clause-at_most : goal.returns-in_err-push-clause-at_most
unfolding jobs_updated
returns-in_err-push-clause-at_most g c =
    let u = c.args.update.now in
    one_most (named_count u.job) (renewed u.job u.file u.groups) c.args.jobs.now c.loop-job.job-index c.job-item.result c.loop-job.news.items _ _ _ c.loop-job-test.true c.job-item.is
    c.loop-job.invariant.jobs c.loop-job.invariant.steps c.renewed.ensures.at_most
