-- Stale markers: that a series has ended ("Staleness" of the Prometheus documentation).
use Rattle.std.specs.Prelude.{ℕ, ℤ, Bool, List, map, None, refl}
use Rattle.label_set.specs.declared.texts.Pair.{Pair}
use Rattle.report_samples.specs.declared.entries.Kind.TheVariants as kind
use Rattle.report_samples.specs.declared.entries.Entry.{Entry}
use Rattle.report_samples.specs.declared.scrape_reports.Report.{Report}
use Rattle.report_samples.specs.Reports.{extra_order, report_order, report_set}

-- the stale marker of a set at m
abbrev pub stale_entry : ℕ → ℤ → List Pair → Entry
stale_entry life m x = record { life = life; kind = kind.Stale; series = x; moment = m; value = None; marked = refl }

-- the stale marker at m of a report's series with this set
abbrev pub marker_of : ℕ → List Pair → ℤ → Entry
marker_of life set m = record { life = life; kind = kind.ReportStale; series = set; moment = m; value = None; marked = refl }

-- the stale marker of a report's series at m
abbrev pub report_marker : ℕ → List Pair → ℤ → Report → Entry
report_marker life target m r = marker_of life (report_set target r) m

-- those of the reports of a life, in their order
abbrev pub report_markers : ℕ → List Pair → Bool → ℤ → List Entry
report_markers life target extra m = map (report_marker life target m) (report_order extra)

-- those of the extra ones
abbrev pub extra_markers : ℕ → List Pair → ℤ → List Entry
extra_markers life target m = map (report_marker life target m) extra_order
