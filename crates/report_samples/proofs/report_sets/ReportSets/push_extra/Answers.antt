use Rattle.std.proofs.Common.{rules, ◌≡◌, ◌∙◌, ◌++◌, w64}
use Rattle.std.proofs.lemmas.Int.{to_z-of_z}
use Rattle.report_samples.specs.Reports.{extra_entries}
use Rattle.report_samples.proofs.report_sets.ReportSets.push_extra.Goals as goal

pub returns-in_ok-push_reports-in-Some : goal.returns-in_ok-push_reports-in-Some
returns-in_ok-push_reports-in-Some c =
    let moment = to_z-of_z w64 c.args.moment c.ranges.moment in
    let same : c.in-Some.sets ≡ c.args.self.now = search rules in
    c.in_ok-push_reports-in-Some.ensures ∙ λ i. c.args.to.now.items ++ extra_entries c.args.life (same i) (moment i) c.args.counts.now

pub returns-in_ok-push_reports-in-None : goal.returns-in_ok-push_reports-in-None
returns-in_ok-push_reports-in-None c =
    let moment = to_z-of_z w64 c.args.moment c.ranges.moment in
    let same : c.in_ok-sets-in-None.sets ≡ c.args.self.now = search rules in
    c.in_ok-push_reports-in-None.ensures ∙ λ i. c.args.to.now.items ++ extra_entries c.args.life (same i) (moment i) c.args.counts.now
