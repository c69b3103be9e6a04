-- The entries of a life have series whose labels have names, where its target's labels and the sets that it tracks
-- have them and its rules have no bad field; and it stays so.
use Rattle.std.proofs.Common.{ℕ, ℤ, pos, Bool, true, false, List, [], ◌∷◌, ◌++◌, map, filter, All, Option, Some, None, is_some}
use Rattle.std.specs.Prelude.{if◌then◌else◌}
use Rattle.std.proofs.lemmas.List.Elements.{All-nil, All-filter, All-head, All-map, All-tail}
use Rattle.label_set.specs.SetText.{metric_label}
use Rattle.label_set.specs.declared.texts.Pair.{Pair}
use Rattle.journal_text.specs.Lines.{number}
use Rattle.outside.specs.declared.replies.Reply.{Reply}
use Rattle.rule_conf.specs.Refusals.{HasNoBadField}
use Rattle.report_samples.specs.Markers.{report_marker, report_markers, stale_entry}
use Rattle.report_samples.specs.Reports.{report_entry, report_name, report_order, report_set, report_value}
use Rattle.report_samples.specs.declared.closing.Closing.{Closing}
use Rattle.report_samples.specs.declared.entries.Entry.{Entry}
use Rattle.report_samples.specs.declared.scrape_reports.ExtraCounts.{ExtraCounts}
use Rattle.report_samples.specs.declared.scrape_reports.Report.{Report}
use Rattle.report_samples.specs.declared.scrape_reports.ReportCounts.{ReportCounts}
use Rattle.end_of_run.specs.Endings.{ending_entries, marker_moment}
use Rattle.sample_rows.specs.Outcomes.{forced, outcome}
use Rattle.sample_rows.specs.declared.scrape.Sample.{Sample}
use Rattle.sample_rows.specs.declared.scrape.Scrape.{Scrape}
use Rattle.series_cache.specs.Sets.{gone}
use Rattle.scrape_loop.specs.Entries.{counts_of, entries_of, extra_of, sample_entry}
use Rattle.scrape_loop.specs.Tracked.{LifeView, samples_of, tracked_in, tracked_sets}
use Rattle.life_roll.specs.declared.schedule.InFlight.{InFlight}
use Rattle.scrape_machine.specs.Lives.{closing_at, counting_entries, ends_at, forces, life_after, life_gives, outcome_for, rules_of, scan_entries, scanned_life}
use Rattle.scrape_machine.specs.declared.lives.Life.{Life}
use Rattle.scrape_machine.specs.declared.lives.Local.{Local}
use Rattle.scrape_machine.specs.declared.lives.Local.TheVariants.{Nothing, Scan, Answered, Change, Close}
use Rattle.named_series.specs.Named.{AreLabelled, HasLabels}
use Rattle.named_series.proofs.LabelLemmas.{byte-filled, label-with, rising-labels}
use Rattle.named_series.proofs.RowLabels.{SampleLabelled, outcome-labels}

-- entries of samples, of markers and of reports
pub entries-both : (xs ys : List Entry) → AreLabelled xs → AreLabelled ys → AreLabelled (xs ++ ys)
entries-both [] ys a b = b
entries-both (x ∷ xs) ys (h, a) b = (h, entries-both xs ys a b)

samples-labels : (life : ℕ) (m : ℤ) (rs : List Sample) → All SampleLabelled rs →
    AreLabelled (map (sample_entry life m) rs)
samples-labels life m [] a = tt
samples-labels life m (r ∷ rs) a =
    (All-head SampleLabelled r rs a, samples-labels life m rs (All-tail SampleLabelled r rs a))

markers-labels : (life : ℕ) (m : ℤ) (xs : List (List Pair)) → All HasLabels xs →
    AreLabelled (map (stale_entry life m) xs)
markers-labels life m [] a = tt
markers-labels life m (x ∷ xs) a = (All-head HasLabels x xs a, markers-labels life m xs (All-tail HasLabels x xs a))

module _ (life : ℕ) (target : List Pair) (h : HasLabels target) (m : ℤ) where
  report-labels : (r : Report) → HasLabels (report_set target r)
  report-labels r = label-with target metric_label (report_name r) (byte-filled _ _) h

  reports-labels : (c : ReportCounts) (order : List Report) →
      AreLabelled (map (λ (r : Report). report_entry life target m r (report_value c r)) order)
  reports-labels c [] = tt
  reports-labels c (r ∷ order) = (report-labels r, reports-labels c order)

  endings-labels : (order : List Report) → AreLabelled (map (report_marker life target m) order)
  endings-labels [] = tt
  endings-labels (r ∷ order) = (report-labels r, endings-labels order)

-- the sets that are gone, and those that samples track
gone-labels : (olds news : List (List Pair)) → All HasLabels olds → All HasLabels (gone olds news)
gone-labels olds news a = All-filter _ HasLabels olds a

tracked-labels : (rs : List Sample) → All SampleLabelled rs → All HasLabels (tracked_in rs)
tracked-labels rs a =
    All-map HasLabels (λ (r : Sample). r.set) (filter (λ (r : Sample). r.tracked) rs)
    (All-filter (λ (r : Sample). r.tracked) SampleLabelled rs a)

-- the entries of a scrape, and of an ending
scrape-labels : (l : LifeView) (extra : Option ExtraCounts) (s : Scrape) (m took : ℤ) → HasLabels l.target →
    All HasLabels l.tracked → All SampleLabelled (samples_of s) →
    AreLabelled (entries_of l extra s m took)
scrape-labels l extra s m took h a b =
    entries-both _ _ (samples-labels l.life m (samples_of s) b)
    (entries-both _ _ (markers-labels l.life m _ (gone-labels l.tracked (tracked_sets s) a))
    (reports-labels l.life l.target h m (counts_of l.known extra s took) (report_order (is_some extra))))

ending-labels : (c : Closing) → HasLabels c.target → All HasLabels c.tracked → AreLabelled (ending_entries c)
ending-labels c h a = by c.scraped
  where
    by : (b : Bool) →
        AreLabelled (if b then map (stale_entry c.life (marker_moment c)) c.tracked
        ++ report_markers c.life c.target c.extra (marker_moment c) else [])
    by true =
        entries-both _ _ (markers-labels c.life (marker_moment c) c.tracked a)
        (endings-labels c.life c.target h (marker_moment c) (report_order c.extra))
    by false = tt

-- what is kept of a life
abbrev pub LifeLabelled : Life → Type 0
LifeLabelled l = HasLabels l.state.target × All HasLabels l.state.tracked × All HasNoBadField l.settings.metric_rules

outcome-for-labels : (l : Life) → LifeLabelled l → (took : ℤ) (r : Reply) →
    All SampleLabelled (samples_of (outcome_for l took r))
unfolding outcome_for
outcome-for-labels l h took r =
    outcome-labels (rules_of l.settings) l.settings.metric_rules h.2 l.state.target h.0 r took

scan-labels : (m : ℤ) (over : Bool) (l : Life) (closed : Option ℤ) → LifeLabelled l →
    AreLabelled (scan_entries m over l closed)
scan-labels m over l None h = by (forces (number m) over l)
  where
    by : (b : Bool) →
        AreLabelled (if b then entries_of l.state (extra_of (rules_of l.settings) (pos 0)) forced m (pos 0) else [])
    by true =
        scrape-labels l.state (extra_of (rules_of l.settings) (pos 0)) forced m (pos 0) h.0 h.1
        (All-nil SampleLabelled)
    by false = tt
scan-labels m over l (Some c) h = by (ends_at (number m) c l)
  where
    by : (b : Bool) → AreLabelled (if b then ending_entries (closing_at c l) else [])
    by true = ending-labels (closing_at c l) h.0 h.1
    by false = tt

counting-labels : (l : Life) (took : ℤ) (r : Reply) (f : Option InFlight) → LifeLabelled l →
    AreLabelled (counting_entries l took r (outcome_for l took r) f)
counting-labels l took r None h = tt
counting-labels l took r (Some f) h =
    scrape-labels l.state _ (outcome_for l took r) f.moment took h.0 h.1 (outcome-for-labels l h took r)

pub gives-labels : (e : Local) (l : Life) → LifeLabelled l → AreLabelled (life_gives e l)
gives-labels Nothing l h = tt
gives-labels (Scan m k over) l h = scan-labels m over l l.schedule.closed h
gives-labels (Answered took r) l h = counting-labels l took r l.schedule.flight h
gives-labels (Change m s) l h = tt
gives-labels (Close m) l h = tt

-- new settings have rules without a bad field
abbrev pub LocalGood : Local → Type 0
LocalGood Nothing = Unit {0}
LocalGood (Scan m k over) = Unit {0}
LocalGood (Answered took r) = Unit {0}
LocalGood (Change m s) = All HasNoBadField s.metric_rules
LocalGood (Close m) = Unit {0}

one-of : (b : Bool) (x y : Life) → LifeLabelled x → LifeLabelled y → LifeLabelled (if b then x else y)
one-of true x y f g = f
one-of false x y f g = g

scanned-labels : (m : ℤ) (k : ℕ) (over : Bool) (l : Life) (closed : Option ℤ) → LifeLabelled l →
    LifeLabelled (scanned_life m k over l closed)
scanned-labels m k over l None h = one-of (forces (number m) over l) _ _ (h.0, All-nil HasLabels, h.2) h
scanned-labels m k over l (Some c) h = one-of (ends_at (number m) c l) _ _ (h.0, All-nil HasLabels, h.2) h

pub after-labels : (e : Local) (l : Life) → LocalGood e → LifeLabelled l → LifeLabelled (life_after e l)
after-labels Nothing l g h = h
after-labels (Scan m k over) l g h = scanned-labels m k over l l.schedule.closed h
after-labels (Answered took r) l g h =
    let s = outcome (rules_of l.settings) l.settings.metric_rules l.state.target r took in
    let samples = outcome-labels (rules_of l.settings) l.settings.metric_rules h.2 l.state.target h.0 r took in
    (h.0, rising-labels (tracked_in (samples_of s)) (tracked-labels (samples_of s) samples), h.2)
after-labels (Change m s) l g h = (h.0, h.1, g)
after-labels (Close m) l g h = h
