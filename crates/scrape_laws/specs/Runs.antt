-- The runs of a series in a life, and that each closed run has one marker.
use Rattle.std.specs.Prelude.{◌≡◌, ℕ, ℤ, Bool, true, false, not, ◌&&◌, List, [], ◌∷◌, ◌++◌, filter, length, slice_get, ◌==◌, Option, Some, None, is_some, if◌then◌else◌}
use Rattle.std.specs.List.{flat_map, take_while, All}
use Rattle.label_set.specs.declared.texts.Pair.{Pair}
use Rattle.journal_text.specs.declared.events.Event.{Event}
use Rattle.report_samples.specs.declared.entries.Kind.{Kind}
use Rattle.report_samples.specs.declared.entries.Kind.TheVariants as kind
use Rattle.report_samples.specs.declared.entries.Entry.{Entry}
use Rattle.report_samples.specs.Markers.{stale_entry}
use Rattle.scrape_machine.specs.Machine.{world_of, book_of}
use Rattle.scrape_laws.specs.Scrapes.{LifeScrape, same_series, tracks, scrapes_of}
use Rattle.scrape_laws.specs.Markers.{samples, is_of, ending_of}

-- a run: neighbouring scrapes that track the series, and the scrapes that follow
pub record Run : Type 0 where
  pub scrapes : List LifeScrape
  pub after : List LifeScrape

-- the run of these scrapes, if there are any
abbrev pub run_of : List LifeScrape → List LifeScrape → List Run
run_of [] after = []
run_of (s ∷ ss) after = record { scrapes = s ∷ ss; after = after } ∷ []

-- the runs, where the scrapes so far of a run that may go on are begun
abbrev pub runs_from : (LifeScrape → Bool) → List LifeScrape → List LifeScrape → List Run
runs_from p begun [] = run_of begun []
runs_from p begun (s ∷ ss) = if p s then runs_from p (begun ++ s ∷ []) ss else run_of begun (s ∷ ss) ++ runs_from p [] ss

-- the runs of a series: the maximal stretches of neighbouring scrapes that track it
abbrev pub runs : List Pair → List LifeScrape → List Run
runs x scrapes = runs_from (tracks x) [] scrapes

-- where a run is closed: by the scrape that follows it, at that scrape's moment; else by the life's ending, where that was taken
abbrev pub closing_moment : Option ℤ → List LifeScrape → Option ℤ
closing_moment ending [] = ending
closing_moment ending (s ∷ ss) = Some s.moment

-- a run is closed
abbrev pub is_closed : Option ℤ → Run → Bool
is_closed ending r = is_some (closing_moment ending r.after)

-- one marker at the moment, if there is one
abbrev pub one_marker : ℕ → List Pair → Option ℤ → List Entry
one_marker n x None = []
one_marker n x (Some m) = stale_entry n m x ∷ []

-- the marker of a run of series x in life n
abbrev pub run_marker : ℕ → List Pair → Option ℤ → Run → List Entry
run_marker n x ending r = one_marker n x (closing_moment ending r.after)

-- the scrapes at the front that don't track the series; of these it has samples with timestamps of their own alone
abbrev pub loose : List Pair → List LifeScrape → List LifeScrape
loose x scrapes = take_while (λ (s : LifeScrape). not (tracks x s)) scrapes

-- what follows a run: where a scrape closes it, that scrape's samples, the run's marker at its moment, and the samples of the scrapes up to the next run;
-- else the marker at the life's ending, where that was taken
abbrev pub closing_entries : ℕ → List Pair → Option ℤ → List LifeScrape → List Entry
closing_entries n x ending [] = one_marker n x ending
closing_entries n x ending (s ∷ ss) = samples n x s ++ (stale_entry n s.moment x ∷ flat_map (samples n x) ss)

-- the samples of a run's scrapes, and what follows it
abbrev pub run_entries : ℕ → List Pair → Option ℤ → Run → List Entry
run_entries n x ending r = flat_map (samples n x) r.scrapes ++ closing_entries n x ending (loose x r.after)

-- an entry is a stale marker of a series
abbrev pub is_marker : Kind → Bool
is_marker kind.Scraped = false
is_marker kind.Stale = true
is_marker kind.Report = false
is_marker kind.ReportStale = false

-- it is one of series x in life n
abbrev pub is_marker_of : ℕ → List Pair → Entry → Bool
is_marker_of n x e = is_marker e.kind && ((e.life == n) && same_series x e.series)

-- an entry is a sample of a scraped body
abbrev pub is_scraped : Kind → Bool
is_scraped kind.Scraped = true
is_scraped kind.Stale = false
is_scraped kind.Report = false
is_scraped kind.ReportStale = false

-- it is one of series x in life n
abbrev pub is_scraped_of : ℕ → List Pair → Entry → Bool
is_scraped_of n x e = is_scraped e.kind && ((e.life == n) && same_series x e.series)

-- in the book of a journal, of series x in life n: the samples and stale markers stand run by run, behind the samples of the scrapes before the first run;
-- the markers are those of the closed runs, one for each; and the samples are those of the scrapes
pub record ClosedRunsLaw (journal : List Event) (n : ℕ) (x : List Pair) : Type 0 where
  pub entries :
      filter (is_of n x) (book_of journal)
      ≡ flat_map (samples n x) (loose x (scrapes_of n journal))
      ++ flat_map (run_entries n x (ending_of (slice_get (world_of journal).lives n))) (runs x (scrapes_of n journal))
  pub markers :
      filter (is_marker_of n x) (book_of journal)
      ≡ flat_map (run_marker n x (ending_of (slice_get (world_of journal).lives n))) (runs x (scrapes_of n journal))
  pub count :
      length (filter (is_marker_of n x) (book_of journal))
      ≡ length (filter (is_closed (ending_of (slice_get (world_of journal).lives n))) (runs x (scrapes_of n journal)))
  pub scraped : filter (is_scraped_of n x) (book_of journal) ≡ flat_map (samples n x) (scrapes_of n journal)

-- some scrapes, the last of which, if any, fails a test
abbrev pub ends_without : (LifeScrape → Bool) → List LifeScrape → Type 0
ends_without p [] = Unit {0}
ends_without p (s ∷ []) = p s ≡ false
ends_without p (s ∷ t ∷ ss) = ends_without p (t ∷ ss)

-- some scrapes, the first of which, if any, fails a test
abbrev pub begins_without : (LifeScrape → Bool) → List LifeScrape → Type 0
begins_without p [] = Unit {0}
begins_without p (s ∷ ss) = p s ≡ false

-- there is a scrape among them
abbrev pub is_any : List LifeScrape → Bool
is_any [] = false
is_any (s ∷ ss) = true

-- a maximal stretch of neighbours that pass the test
pub record IsRun (p : LifeScrape → Bool) (scrapes : List LifeScrape) (r : Run) : Type 0 where
  pub before : List LifeScrape
  pub whole : scrapes ≡ before ++ (r.scrapes ++ r.after)
  pub some : is_any r.scrapes ≡ true
  pub each : filter p r.scrapes ≡ r.scrapes
  pub left : ends_without p before
  pub right : begins_without p r.after

-- the runs of series x are maximal stretches, in order, and have all scrapes that track it
pub record RunsLaw (x : List Pair) (scrapes : List LifeScrape) : Type 0 where
  pub maximal : All (IsRun (tracks x) scrapes) (runs x scrapes)
  pub all : flat_map (λ (r : Run). r.scrapes) (runs x scrapes) ≡ filter (tracks x) scrapes
