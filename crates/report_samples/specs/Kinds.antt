-- The kinds of entries ("Staleness" of the Prometheus documentation, for the two markers).
use Rattle.std.specs.Prelude.{Bool, true, false}
use Rattle.report_samples.specs.declared.entries.Kind.{Kind}
use Rattle.report_samples.specs.declared.entries.Kind.TheVariants.{Scraped, Stale, Report, ReportStale}

-- it says that its series has ended: it is one of the two markers
abbrev pub marks_end : Kind → Bool
marks_end Scraped = false
marks_end Stale = true
marks_end Report = false
marks_end ReportStale = true
