use Rattle.std.proofs.Common.{◌≡◌, ◌∙◌, ◌++◌, Global, List, Vec, ap, w64}
use Rattle.std.proofs.lemmas.Int.{to_z-of_z}
use Rattle.report_samples.specs.declared.entries.Entry.{Entry}
use Rattle.report_samples.specs.Reports.{extra_entries, first_entries}
use Rattle.report_samples.proofs.PushLemmas.{with_extra, without_extra}
use Rattle.report_samples.proofs.report_sets.ReportSets.reports.Goals as goal
use Rattle.report_samples.proofs.report_sets.ReportSets.reports.Goals.{in-Some+in_ok-push_extra, in_default}

pub returns : goal.returns
returns c =
    let moment = to_z-of_z w64 c.args.moment c.ranges.moment in
    let life = c.args.life in
    let target = c.args.self.now in
    let counts = c.args.counts.now in
    let first : c.in_ok-items.items.items ≡ first_entries life target c.args.moment counts =
    c.in_ok-items.ensures ∙ λ i. first_entries life target (moment i) counts in
    elim c.match-counts.branch [
      | in-Some+in_ok-push_extra w ↦
          let e = w.in-Some.extra in
          let more : w.push_extra.new.to.items ≡ c.in_ok-items.items.items ++ extra_entries life target c.args.moment e =
          w.in_ok-push_extra.ensures ∙ λ i. c.in_ok-items.items.items ++ extra_entries life target (moment i) e in
          ap (λ (v : Vec Entry Global). v.items) w.items-is ∙ more ∙ ap (λ (es : List Entry). es ++ extra_entries life target c.args.moment e) first
          ∙ with_extra life target c.args.moment counts e w.in-Some.is
      | in_default w ↦ ap (λ (v : Vec Entry Global). v.items) w.items-is ∙ first ∙ without_extra life target c.args.moment counts w.in_default.is
    ]
