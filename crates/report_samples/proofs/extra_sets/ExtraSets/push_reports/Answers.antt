use Rattle.std.proofs.Common.{rules, ◌≡◌, ◌∙◌, ◌++◌, ◌∷◌, [], List, ap, to_z, of_z, w64}
use Rattle.std.proofs.lemmas.Int.{to_z-of_z}
use Rattle.std.specs.Fmt.{decimal, signed_decimal}
use Rattle.label_set.specs.declared.texts.Pair.{Pair}
use Rattle.value_text.specs.Numbers.{seconds3, number}
use Rattle.report_samples.specs.declared.scrape_reports.Report.TheVariants.{Timeout, SampleLimit, BodySize}
use Rattle.report_samples.specs.Reports.{report_at, report_set}
use Rattle.report_samples.proofs.PushLemmas.{three_pushed}
use Rattle.report_samples.proofs.extra_sets.ExtraSets.push_reports.Goals as goal

pub returns : goal.returns
returns c =
    let life = c.args.life in
    let sets = c.self.inside in
    let m = to_z w64 (of_z w64 c.args.moment) in
    let moment : m ≡ c.args.moment = to_z-of_z w64 c.args.moment c.ranges.moment in
    let timeout : c.in_ok-timeout.timeout ≡ seconds3 (number c.args.counts.now.timeout) = search rules in
    let limit : c.in_ok-limit.limit ≡ decimal c.args.counts.now.limit = search rules in
    let size : c.in_ok-size.size ≡ signed_decimal c.args.counts.now.size = search rules in
    let timeout_set : sets.timeout ≡ report_set c.args.self.now Timeout = c.self.invariant.0 ∙ ap (λ (t : List Pair). report_set t Timeout) c.self.view_is in
    let limit_set : sets.limit ≡ report_set c.args.self.now SampleLimit = c.self.invariant.1 ∙ ap (λ (t : List Pair). report_set t SampleLimit) c.self.view_is in
    let size_set : sets.size ≡ report_set c.args.self.now BodySize = c.self.invariant.2 ∙ ap (λ (t : List Pair). report_set t BodySize) c.self.view_is in
    three_pushed _ _ _ _ _ _ _ c.in_ok-push_report.ensures c.in_ok-push_report-2.ensures c.in_ok-push_report-3.ensures
    ∙ λ i. c.args.to.now.items ++ report_at life (timeout_set i) (moment i) (timeout i) ∷ report_at life (limit_set i) (moment i) (limit i) ∷ report_at life (size_set i) (moment i) (size i) ∷ []
