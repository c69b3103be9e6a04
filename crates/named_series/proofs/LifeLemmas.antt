-- The entries of a life, and the lives of a journal.
use Rattle.std.proofs.Common.{◌≡◌, ℕ, ℤ, pos, Bool, true, false, List, [], ◌∷◌, ◌++◌, length, map, refl}
use Rattle.std.specs.Prelude.{Option, Some, None, Result, Ok, Err, if◌then◌else◌, is_some}
use Rattle.label_conflict.specs.Merging.{bears}
use Rattle.label_set.specs.SetText.{metric_label}
use Rattle.label_set.specs.declared.texts.Pair.{Pair}
use Rattle.outside.specs.declared.replies.Reply.{Reply}
use Rattle.rule_conf.specs.declared.conf.RuleConf.{RuleConf}
use Rattle.scrape_limits.specs.declared.limits.Limits.{Limits}
use Rattle.expo_reader.specs.declared.rows.BodyRow.{BodyRow}
use Rattle.report_samples.specs.declared.closing.Closing.{Closing}
use Rattle.report_samples.specs.declared.scrape_reports.ExtraCounts.{ExtraCounts}
use Rattle.report_samples.specs.Markers.{report_markers, stale_entry}
use Rattle.report_samples.specs.Reports.{report_order}
use Rattle.end_of_run.specs.Endings.{ending_entries, marker_moment}
use Rattle.sample_rows.specs.Outcomes.{forced, judged, of_early, outcome, rows_or_fault}
use Rattle.sample_rows.specs.Rows as rows
use Rattle.sample_rows.specs.Rows.{Left, first_fault, first_of, left_from, rows_fault, series_fault}
use Rattle.sample_rows.specs.declared.fault.ScrapeFault.{ScrapeFault}
use Rattle.sample_rows.specs.declared.scrape.RowRules.{RowRules}
use Rattle.sample_rows.specs.declared.scrape.Scrape.{Scrape}
use Rattle.scrape_loop.specs.Entries.{counts_of, entries_of, extra_of}
use Rattle.scrape_loop.specs.Tracked.{LifeView, samples_of, tracked_in, tracked_sets}
use Rattle.life_roll.specs.declared.schedule.InFlight.{InFlight}
use Rattle.scrape_machine.specs.Lives.{closing_at, counting_entries, ends_at, forces, life_after, life_gives, outcome_for, rules_of, scan_entries, scanned_life}
use Rattle.scrape_machine.specs.declared.lives.Life.{Life}
use Rattle.scrape_machine.specs.declared.lives.Local.{Local}
use Rattle.scrape_machine.specs.declared.lives.Local.TheVariants.{Nothing, Scan, Answered, Change, Close}
use Rattle.journal_text.specs.Lines.{number}
use Rattle.named_series.specs.Named.{AreNamed, HasName}
use Rattle.named_series.proofs.SetLemmas.{SamplesNamed, SetsNamed, entries-both, gone-named, markers-named, report-markers-named, reports-named, rising-named, samples-named, tracked-named}

-- rows without a fault have names
series-named : (limits : Limits) (n : ℕ) (set : List Pair) → series_fault limits n set ≡ None → HasName set
unfolding series_fault
series-named limits n set e = by (bears set metric_label) refl
  where
    by : (b : Bool) → bears set metric_label ≡ b → bears set metric_label ≡ true
    by true h = h
    by false h = absurd cc

first-none : (a b : Option ScrapeFault) → first_of a b ≡ None → a ≡ None
first-none None b e = refl
first-none (Some f) b e = absurd cc

second-none : (a b : Option ScrapeFault) → first_of a b ≡ None → b ≡ None
second-none None b e = e
second-none (Some f) b e = absurd cc

left-named : (limits : Limits) (ls : List Left) → first_fault limits ls ≡ None → SamplesNamed (rows.samples_of ls)
left-named limits [] e = tt
left-named limits (l ∷ ls) e = (
  series-named limits l.row l.sample.set (first-none (series_fault limits l.row l.sample.set) (first_fault limits ls) e),
  left-named limits ls (second-none (series_fault limits l.row l.sample.set) (first_fault limits ls) e),
)

judged-named : (limits : Limits) (ls : List Left) (scraped : ℕ) → SamplesNamed (samples_of (judged (rows_fault limits ls) (rows.samples_of ls) scraped))
judged-named limits ls scraped = by (rows_fault limits ls) refl
  where
    by : (o : Option ScrapeFault) → rows_fault limits ls ≡ o → SamplesNamed (samples_of (judged o (rows.samples_of ls) scraped))
    by None e = left-named limits ls (first-none (first_fault limits ls) _ e)
    by (Some f) e = tt

early-named : (rules : RowRules) (metric : List RuleConf) (target : List Pair) (r : Result (List BodyRow) ScrapeFault) → SamplesNamed (samples_of (of_early rules metric target r))
early-named rules metric target (Ok rs) = judged-named rules.limits (left_from rules metric target 0 rs) (length rs)
early-named rules metric target (Err f) = tt

outcome-named : (rules : RowRules) (metric : List RuleConf) (target : List Pair) (reply : Reply) (took : ℤ) → SamplesNamed (samples_of (outcome rules metric target reply took))
unfolding outcome
outcome-named rules metric target reply took = early-named rules metric target (rows_or_fault rules reply took)

pub life-outcome-named : (l : Life) (took : ℤ) (r : Reply) → SamplesNamed (samples_of (outcome_for l took r))
unfolding outcome_for
life-outcome-named l took r = outcome-named _ l.settings.metric_rules l.state.target r took

-- the entries of a scrape, and of an ending
scrape-named : (l : LifeView) (extra : Option ExtraCounts) (s : Scrape) (m took : ℤ) → SetsNamed l.tracked → SamplesNamed (samples_of s) → AreNamed (entries_of l extra s m took)
scrape-named l extra s m took a b =
    entries-both _ _ (samples-named l.life m (samples_of s) b)
    (entries-both _ _ (markers-named l.life m _ (gone-named l.tracked (tracked_sets s) a)) (reports-named l.life l.target m (counts_of l.known extra s took) (report_order (is_some extra))))

ending-named : (c : Closing) → SetsNamed c.tracked → AreNamed (ending_entries c)
ending-named c a = by c.scraped
  where
    by : (b : Bool) → AreNamed (if b then map (stale_entry c.life (marker_moment c)) c.tracked ++ report_markers c.life c.target c.extra (marker_moment c) else [])
    by true = entries-both _ _ (markers-named c.life (marker_moment c) c.tracked a) (report-markers-named c.life c.target (marker_moment c) (report_order c.extra))
    by false = tt

-- the sets that a life tracks have names
abbrev pub IsNamed : Life → Type 0
IsNamed l = SetsNamed l.state.tracked

scan-named : (m : ℤ) (over : Bool) (l : Life) (closed : Option ℤ) → IsNamed l → AreNamed (scan_entries m over l closed)
scan-named m over l None a = by (forces (number m) over l)
  where
    by : (b : Bool) → AreNamed (if b then entries_of l.state (extra_of (rules_of l.settings) (pos 0)) forced m (pos 0) else [])
    by true = scrape-named l.state (extra_of (rules_of l.settings) (pos 0)) forced m (pos 0) a tt
    by false = tt
scan-named m over l (Some c) a = by (ends_at (number m) c l)
  where
    by : (b : Bool) → AreNamed (if b then ending_entries (closing_at c l) else [])
    by true = ending-named (closing_at c l) a
    by false = tt

counting-named : (l : Life) (took : ℤ) (r : Reply) (f : Option InFlight) → IsNamed l → AreNamed (counting_entries l took r (outcome_for l took r) f)
counting-named l took r None a = tt
counting-named l took r (Some f) a = scrape-named l.state _ (outcome_for l took r) f.moment took a (life-outcome-named l took r)

pub gives-named : (e : Local) (l : Life) → IsNamed l → AreNamed (life_gives e l)
gives-named Nothing l a = tt
gives-named (Scan m k over) l a = scan-named m over l l.schedule.closed a
gives-named (Answered took r) l a = counting-named l took r l.schedule.flight a
gives-named (Change m s) l a = tt
gives-named (Close m) l a = tt

-- and stay so
one-named : (b : Bool) (x y : Life) → IsNamed x → IsNamed y → IsNamed (if b then x else y)
one-named true x y f g = f
one-named false x y f g = g

scanned-named : (m : ℤ) (k : ℕ) (over : Bool) (l : Life) (closed : Option ℤ) → IsNamed l → IsNamed (scanned_life m k over l closed)
scanned-named m k over l None a = one-named (forces (number m) over l) _ _ tt a
scanned-named m k over l (Some c) a = one-named (ends_at (number m) c l) _ _ tt a

pub after-named : (e : Local) (l : Life) → IsNamed l → IsNamed (life_after e l)
unfolding outcome_for
after-named Nothing l a = a
after-named (Scan m k over) l a = scanned-named m k over l l.schedule.closed a
after-named (Answered took r) l a = rising-named (tracked_in (samples_of (outcome_for l took r))) (tracked-named (samples_of (outcome_for l took r)) (life-outcome-named l took r))
after-named (Change m s) l a = a
after-named (Close m) l a = a
