use Rattle.std.proofs.Common.{◌∙◌, ◌++◌, List, sym, ap, take, ℕ}
use Rattle.scrape_config.specs.declared.conf.Job.{Job}
use Rattle.run_lock.specs.Listed.{files_listed, listed_in}
use Rattle.run_lock.specs.declared.listed.Listed.{Listed}
use Rattle.run_lock.proofs.ListedLemmas.{jobs_next}
use Rattle.run_lock.proofs.listed.listed_in.Goals as goal

pub loop-job-preserved : goal.loop-job-preserved
loop-job-preserved c =
    let j = c.job-item.result in
    let name = c.job.result.now.conf.job_name in
    let before = listed_in (take c.loop-job.job-index c.args.jobs.now) in
    record {
      listed = c.in_ok-push_files.ensures.fit c.loop-job.invariant.listed;
      all = c.in_ok-push_files.ensures.pushed
          ∙ (ap (λ (ls : List Listed). ls ++ files_listed name c.as_slice.result.now) c.loop-job.invariant.all
          ∙ (ap (λ (files : List (List ℕ)). before ++ files_listed name files) c.as_slice.ensures
          ∙ (ap (λ (x : Job). before ++ files_listed x.conf.job_name x.conf.files) c.job.ensures.value
          ∙ sym (jobs_next c.args.jobs.now c.loop-job.job-index j c.loop-job-test.true c.job-item.is))));
    }
