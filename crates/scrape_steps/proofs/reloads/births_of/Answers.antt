use Rattle.std.proofs.Common.{◌++◌, ◌∙◌, ap, length, ◌+◌}
use Rattle.std.specs.Prelude.{filter, not}
use Rattle.journal_text.specs.Lines.{number}
use Rattle.life_roll.specs.Names.{place_in}
use Rattle.scrape_config.specs.declared.conf.Job.{Job}
use Rattle.target_set.specs.declared.targets.Target.{Target}
use Rattle.scrape_machine.specs.Machine.{born_all}
use Rattle.scrape_steps.specs.Plans.{is_seated}
use Rattle.scrape_steps.proofs.ReloadLemmas.{births_more}
use Rattle.scrape_steps.proofs.reloads.births_of.Goals as goal

pub loop-job-preserved : goal.loop-job-preserved
loop-job-preserved c =
    let m = number c.args.moment in
    let j = c.job-item.result in
    births_more m c.args.first c.args.held.now c.args.names.now c.args.news.now c.loop-job.job-index j c.loop-job.lives.items c.push_born.new.lives.items
    c.loop-job-test.true c.job-item.is c.loop-job.invariant
    (c.in_ok-push_born.ensures
    ∙ ap (λ o. c.loop-job.lives.items ++ born_all m (c.args.first + length c.loop-job.lives.items) j (filter (λ (t : Target). not (is_seated c.args.held.now t.identity o)) j.kept)) (c.place-place.ensures ∙ ap (λ (x : Job). place_in x.conf.job_name c.args.names.now) c.job.ensures.value))
