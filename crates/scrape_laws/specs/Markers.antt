-- The marker law: where the samples and the stale markers of a series stand ("Staleness" of the Prometheus documentation: a series that a scrape
-- doesn't return any more, or whose target goes, is marked as stale; one whose samples have timestamps of their own is not,
-- unless its job tracks it).
use Rattle.std.specs.Prelude.{◌≡◌, ℕ, ℤ, Bool, true, false, not, ◌&&◌, List, [], ◌∷◌, ◌++◌, map, filter, slice_get, ◌==◌, Option, Some, None, option_map, if◌then◌else◌}
use Rattle.label_set.specs.declared.texts.Pair.{Pair}
use Rattle.journal_text.specs.declared.events.Event.{Event}
use Rattle.report_samples.specs.declared.entries.Kind.{Kind}
use Rattle.report_samples.specs.declared.entries.Kind.TheVariants as kind
use Rattle.report_samples.specs.declared.entries.Entry.{Entry}
use Rattle.report_samples.specs.Markers.{stale_entry, report_markers}
use Rattle.end_of_run.specs.Endings.{marker_moment}
use Rattle.scrape_loop.specs.Entries.{sample_entry}
use Rattle.scrape_loop.specs.Tracked.{samples_of}
use Rattle.scrape_machine.specs.declared.lives.Life.{Life}
use Rattle.scrape_machine.specs.Lives.{closing_at}
use Rattle.scrape_machine.specs.Machine.{world_of, book_of}
use Rattle.scrape_laws.specs.Scrapes.{LifeScrape, same_series, is_sample_of, tracks, scrapes_of}

-- the entries of a scrape's samples of series x in life n, those with timestamps of their own too
abbrev pub samples : ℕ → List Pair → LifeScrape → List Entry
samples n x s = map (sample_entry n s.moment) (filter (is_sample_of x) (samples_of s.outcome))

-- a stale marker of the series at m, or none
abbrev pub mark_if : ℕ → List Pair → ℤ → Bool → List Entry
mark_if n x m b = if b then stale_entry n m x ∷ [] else []

-- the marker at the ending, where that was taken and the last scrape tracked the series
abbrev pub last_mark : ℕ → List Pair → Option ℤ → Bool → List Entry
last_mark n x None before = []
last_mark n x (Some m) before = mark_if n x m before

-- scrape by scrape, its samples of the series, and then a marker at its moment where the scrape before it tracked the series and it doesn't;
-- at last the marker at the ending
abbrev pub series_entries : ℕ → List Pair → Option ℤ → Bool → List LifeScrape → List Entry
series_entries n x ending before [] = last_mark n x ending before
series_entries n x ending before (s ∷ ss) = samples n x s ++ (mark_if n x s.moment (before && not (tracks x s)) ++ series_entries n x ending (tracks x s) ss)

-- the moment of a life's ending, where it was taken
abbrev pub ending_of : Option Life → Option ℤ
ending_of None = None
ending_of (Some l) = if l.ended then option_map (λ c. marker_moment (closing_at c l)) l.schedule.closed else None

-- an entry is a scraped sample or a stale marker, and not one of a report
abbrev pub is_sample_or_marker : Kind → Bool
is_sample_or_marker kind.Scraped = true
is_sample_or_marker kind.Stale = true
is_sample_or_marker kind.Report = false
is_sample_or_marker kind.ReportStale = false

-- it is one of series x in life n
abbrev pub is_of : ℕ → List Pair → Entry → Bool
is_of n x e = is_sample_or_marker e.kind && ((e.life == n) && same_series x e.series)

-- in the book of a journal the samples and stale markers of each series in each life are those, in that order, and no others
abbrev pub MarkerLaw : List Event → Type 0
MarkerLaw journal = (n : ℕ) (x : List Pair) →
    filter (is_of n x) (book_of journal) ≡ series_entries n x (ending_of (slice_get (world_of journal).lives n)) false (scrapes_of n journal)

-- the report markers at the moment of an ending, where that was taken, of a life with these scrapes: one for each report of the life, the five and,
-- where its job has the extra ones, three more; none where it has no scrape
abbrev pub reports_at : ℕ → List Pair → Bool → Option ℤ → List LifeScrape → List Entry
reports_at n target extra None ss = []
reports_at n target extra (Some m) [] = []
reports_at n target extra (Some m) (s ∷ ss) = report_markers n target extra m

-- those of a life, if it has begun
abbrev pub ending_reports : ℕ → Option Life → List LifeScrape → List Entry
ending_reports n None ss = []
ending_reports n (Some l) ss = reports_at n l.state.target l.settings.conf.extra_scrape_metrics (ending_of (Some l)) ss

-- an entry is a stale marker of a report
abbrev pub is_report_marker : Kind → Bool
is_report_marker kind.Scraped = false
is_report_marker kind.Stale = false
is_report_marker kind.Report = false
is_report_marker kind.ReportStale = true

-- it is one of life n
abbrev pub is_report_marker_of : ℕ → Entry → Bool
is_report_marker_of n e = is_report_marker e.kind && (e.life == n)

-- in the book of a journal the report markers of each life are those of its reports at its ending, where that was taken and a scrape of the life counted,
-- and no others
abbrev pub ReportMarkerLaw : List Event → Type 0
ReportMarkerLaw journal = (n : ℕ) →
    filter (is_report_marker_of n) (book_of journal) ≡ ending_reports n (slice_get (world_of journal).lives n) (scrapes_of n journal)
