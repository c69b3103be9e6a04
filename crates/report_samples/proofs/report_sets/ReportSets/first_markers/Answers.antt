use Rattle.std.proofs.Common.{◌≡◌, ◌∙◌, ◌++◌, ◌∷◌, [], List, ap, to_z, of_z, w64}
use Rattle.std.proofs.lemmas.Int.{to_z-of_z}
use Rattle.label_set.specs.declared.texts.Pair.{Pair}
use Rattle.report_samples.specs.declared.entries.Entry.{Entry}
use Rattle.report_samples.specs.declared.scrape_reports.Report.TheVariants.{Up, Duration, Scraped, Left, Added}
use Rattle.report_samples.specs.Markers.{marker_of}
use Rattle.report_samples.specs.Reports.{report_set}
use Rattle.report_samples.proofs.report_sets.ReportSets.first_markers.Goals as goal

pub returns : goal.returns
returns c =
    let life = c.args.life in
    let sets = c.self.inside in
    let m = to_z w64 (of_z w64 c.args.moment) in
    let moment : m ≡ c.args.moment = to_z-of_z w64 c.args.moment c.ranges.moment in
    let entry : List Pair → Entry = λ set. marker_of life set m in
    let up_set : sets.up ≡ report_set c.args.self.now Up = c.self.invariant.0 ∙ ap (λ (t : List Pair). report_set t Up) c.self.view_is in
    let took_set : sets.duration ≡ report_set c.args.self.now Duration = c.self.invariant.1 ∙ ap (λ (t : List Pair). report_set t Duration) c.self.view_is in
    let scraped_set : sets.scraped ≡ report_set c.args.self.now Scraped = c.self.invariant.2 ∙ ap (λ (t : List Pair). report_set t Scraped) c.self.view_is in
    let left_set : sets.left ≡ report_set c.args.self.now Left = c.self.invariant.3 ∙ ap (λ (t : List Pair). report_set t Left) c.self.view_is in
    let added_set : sets.added ≡ report_set c.args.self.now Added = c.self.invariant.4 ∙ ap (λ (t : List Pair). report_set t Added) c.self.view_is in
    let first = c.in_ok-push_marker.ensures ∙ ap (λ (es : List Entry). es ++ entry sets.up ∷ []) c.in_ok-items.ensures.items in
    let second = c.in_ok-push_marker-2.ensures ∙ ap (λ (es : List Entry). es ++ entry sets.duration ∷ []) first in
    let third = c.in_ok-push_marker-3.ensures ∙ ap (λ (es : List Entry). es ++ entry sets.scraped ∷ []) second in
    let fourth = c.in_ok-push_marker-4.ensures ∙ ap (λ (es : List Entry). es ++ entry sets.left ∷ []) third in
    c.in_ok-push_marker-5.ensures ∙ ap (λ (es : List Entry). es ++ entry sets.added ∷ []) fourth
    ∙ λ i. marker_of life (up_set i) (moment i) ∷ marker_of life (took_set i) (moment i) ∷ marker_of life (scraped_set i) (moment i)
    ∷ marker_of life (left_set i) (moment i) ∷ marker_of life (added_set i) (moment i) ∷ []
