use Rattle.std.proofs.Common.{◌∙◌, ◌++◌, ◌∷◌, [], ℤ, ap, w64}
use Rattle.std.proofs.lemmas.Int.{to_z-of_z}
use Rattle.report_samples.specs.declared.entries.Entry.{Entry}
use Rattle.report_samples.specs.Reports.{report_at}
use Rattle.report_samples.proofs.report_entries.push_report.Goals as goal

pub returns : goal.returns
returns c =
    let moment = to_z-of_z w64 c.args.moment c.ranges.moment in
    let entry = c.in_ok-report_at.ensures ∙ ap (λ (m : ℤ). report_at c.args.life c.args.set.now m c.args.value) moment in
    c.in_ok-push.ensures.items ∙ ap (λ (e : Entry). c.args.to.now.items ++ e ∷ []) entry
