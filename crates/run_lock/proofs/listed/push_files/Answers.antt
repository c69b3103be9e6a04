use Rattle.std.proofs.Common.{◌∙◌, ◌++◌, sym, ap, append_assoc}
use Rattle.run_lock.specs.Listed.{file_listed}
use Rattle.run_lock.proofs.ListedLemmas.{files_next}
use Rattle.run_lock.proofs.listed.push_files.Goals as goal

pub loop-file-preserved : goal.loop-file-preserved
loop-file-preserved c =
    let job = c.args.job.now in
    let files = c.args.files.now in
    record {
      kept = λ all. c.in_ok-push_file.ensures.fit (c.loop-file.invariant.kept all);
      pushed = c.in_ok-push_file.ensures.pushed ∙ (ap (λ ls. ls ++ file_listed job c.file-item.result) c.loop-file.invariant.pushed
          ∙ (append_assoc c.args.listed.now.items _ (file_listed job c.file-item.result)
          ∙ ap (λ ls. c.args.listed.now.items ++ ls) (sym (files_next job files c.loop-file.file-index c.file-item.result c.loop-file-test.true c.file-item.is))));
    }
