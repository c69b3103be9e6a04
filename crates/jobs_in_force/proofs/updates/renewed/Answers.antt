use Rattle.std.proofs.Common.{◌∙◌, sym, ap}
use Rattle.jobs_in_force.specs.declared.jobs.Filed.{Filed}
use Rattle.jobs_in_force.proofs.ListedLemmas.{renewed_listed, renewed_most}
use Rattle.jobs_in_force.proofs.updates.renewed.Goals as goal

pub returns-in_ok-filed-clause-steps : goal.returns-in_ok-filed-clause-steps
returns-in_ok-filed-clause-steps g c =
    renewed_listed c.args.update.now.job c.args.job.now c.in_ok-filed.filed _ _ c.in_force.result (sym c.is_named.ensures ∙ c.if-is_named.true)
    (ap (λ (f : Filed). f.job) c.in_ok-filed.ensures) c.in_force.ensures.job c.in_force.ensures.steps

pub returns-in_ok-filed-clause-at_most : goal.returns-in_ok-filed-clause-at_most
returns-in_ok-filed-clause-at_most g c =
    renewed_most c.args.update.now.job c.args.update.now.file c.args.update.now.groups c.args.job.now c.in_ok-filed.filed _ _
    (sym c.is_named.ensures ∙ c.if-is_named.true) c.in_ok-filed.ensures c.in_force.ensures.at_most
