use Rattle.std.proofs.Common.{◌∙◌, rules, to_z, of_z, w64, ◌≡◌}
use Rattle.journal_text.proofs.EventLemmas.{job_no_text, file_no_text, targets_made}
use Rattle.journal_text.proofs.reading.targets.Goals as goal

pub returns-in_default : goal.returns-in_default
returns-in_default c = job_no_text c.args.moment c.args.job.now c.args.file.now c.args.text.now c.in_default.ensures.cases.0

pub returns-in_default-from_utf8 : goal.returns-in_default-from_utf8
returns-in_default-from_utf8 c =
    file_no_text c.args.moment c.args.job.now c.args.file.now c.args.text.now c.in-Ok.ensures.cases.1 c.in_default-from_utf8.ensures.cases.0

pub returns : goal.returns
returns c =
    let moment : to_z w64 (of_z w64 c.args.moment) ≡ c.args.moment = search rules in
    targets_made c.args.moment _ c.args.job.now c.args.file.now c.args.text.now _ _ _ c.in-Ok.ensures.cases.1 c.in-Ok-from_utf8.ensures.cases.1 moment
    (c.in_ok-from_str.ensures ∙ c.in-Ok.ensures.cases.0) (c.in_ok-from_str-2.ensures ∙ c.in-Ok-from_utf8.ensures.cases.0) c.in_ok-from_slice.ensures
