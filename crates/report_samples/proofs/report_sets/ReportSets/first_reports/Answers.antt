use Rattle.std.proofs.Common.{rules, ◌≡◌, ◌∙◌, ◌++◌, ◌∷◌, [], ℕ, List, ap, to_z, of_z, w64}
use Rattle.std.proofs.lemmas.Int.{to_z-of_z}
use Rattle.std.specs.Fmt.{decimal}
use Rattle.label_set.specs.declared.texts.Pair.{Pair}
use Rattle.value_text.specs.Numbers.{seconds3, number}
use Rattle.report_samples.specs.declared.entries.Entry.{Entry}
use Rattle.report_samples.specs.declared.scrape_reports.Report.TheVariants.{Up, Duration, Scraped, Left, Added}
use Rattle.report_samples.specs.Reports.{report_at, report_set, up_text}
use Rattle.report_samples.proofs.report_sets.ReportSets.first_reports.Goals as goal

pub returns : goal.returns
returns c =
    let life = c.args.life in
    let sets = c.self.inside in
    let m = to_z w64 (of_z w64 c.args.moment) in
    let moment : m ≡ c.args.moment = to_z-of_z w64 c.args.moment c.ranges.moment in
    let entry : List Pair → List ℕ → Entry = λ set v. report_at life set m v in
    let up : c.in_ok-up.up ≡ up_text c.args.counts.now.up = search rules in
    let took : c.in_ok-took.took ≡ seconds3 (number c.args.counts.now.took) = search rules in
    let scraped : c.in_ok-scraped.scraped ≡ decimal c.args.counts.now.scraped = search rules in
    let left : c.in_ok-left.left ≡ decimal c.args.counts.now.left = search rules in
    let added : c.in_ok-added.added ≡ decimal c.args.counts.now.added = search rules in
    let up_set : sets.up ≡ report_set c.args.self.now Up = c.self.invariant.0 ∙ ap (λ (t : List Pair). report_set t Up) c.self.view_is in
    let took_set : sets.duration ≡ report_set c.args.self.now Duration = c.self.invariant.1 ∙ ap (λ (t : List Pair). report_set t Duration) c.self.view_is in
    let scraped_set : sets.scraped ≡ report_set c.args.self.now Scraped = c.self.invariant.2 ∙ ap (λ (t : List Pair). report_set t Scraped) c.self.view_is in
    let left_set : sets.left ≡ report_set c.args.self.now Left = c.self.invariant.3 ∙ ap (λ (t : List Pair). report_set t Left) c.self.view_is in
    let added_set : sets.added ≡ report_set c.args.self.now Added = c.self.invariant.4 ∙ ap (λ (t : List Pair). report_set t Added) c.self.view_is in
    let first = c.in_ok-push_report.ensures ∙ ap (λ (es : List Entry). es ++ entry sets.up c.in_ok-up.up ∷ []) c.in_ok-items.ensures.items in
    let second = c.in_ok-push_report-2.ensures ∙ ap (λ (es : List Entry). es ++ entry sets.duration c.in_ok-took.took ∷ []) first in
    let third = c.in_ok-push_report-3.ensures ∙ ap (λ (es : List Entry). es ++ entry sets.scraped c.in_ok-scraped.scraped ∷ []) second in
    let fourth = c.in_ok-push_report-4.ensures ∙ ap (λ (es : List Entry). es ++ entry sets.left c.in_ok-left.left ∷ []) third in
    c.in_ok-push_report-5.ensures ∙ ap (λ (es : List Entry). es ++ entry sets.added c.in_ok-added.added ∷ []) fourth
    ∙ λ i. report_at life (up_set i) (moment i) (up i) ∷ report_at life (took_set i) (moment i) (took i) ∷ report_at life (scraped_set i) (moment i) (scraped i)
    ∷ report_at life (left_set i) (moment i) (left i) ∷ report_at life (added_set i) (moment i) (added i) ∷ []
