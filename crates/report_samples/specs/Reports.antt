-- The report samples of a scrape ("Jobs and instances" of the Prometheus documentation, automatically generated labels and time series; "Feature flags",
-- extra scrape metrics, for the last three).
use Rattle.std.specs.Prelude.{ℕ, ℤ, Bool, true, false, List, [], ◌∷◌, codes, map, Some, is_some, if◌then◌else◌, refl}
use Rattle.std.specs.Fmt.{decimal, signed_decimal}
use Rattle.std.specs.Option.{option_map_or}
use Rattle.label_set.specs.declared.texts.Pair.{Pair}
use Rattle.label_set.specs.Sets.{with_label}
use Rattle.report_samples.specs.declared.entries.Kind.TheVariants as kind
use Rattle.report_samples.specs.declared.entries.Entry.{Entry}
use Rattle.report_samples.specs.declared.scrape_reports.Report.{Report}
use Rattle.report_samples.specs.declared.scrape_reports.Report.TheVariants.{Up, Duration, Scraped, Left, Added, Timeout, SampleLimit, BodySize}
use Rattle.report_samples.specs.declared.scrape_reports.ExtraCounts.{ExtraCounts}
use Rattle.report_samples.specs.declared.scrape_reports.ReportCounts.{ReportCounts}
use Rattle.value_text.specs.Numbers.{seconds3, number}

-- a target's labels with a metric name as `__name__`
abbrev pub named : List Pair → List ℕ → List Pair
named target name = with_label target (codes "__name__") name

-- the name of a report's series
abbrev pub report_name : Report → List ℕ
report_name Up = codes "up"
report_name Duration = codes "scrape_duration_seconds"
report_name Scraped = codes "scrape_samples_scraped"
report_name Left = codes "scrape_samples_post_metric_relabeling"
report_name Added = codes "scrape_series_added"
report_name Timeout = codes "scrape_timeout_seconds"
report_name SampleLimit = codes "scrape_sample_limit"
report_name BodySize = codes "scrape_body_size_bytes"

-- its set: the target's labels, and that name as `__name__`
abbrev pub report_set : List Pair → Report → List Pair
report_set target r = named target (report_name r)

-- a report sample at m, of a series with this set
abbrev pub report_at : ℕ → List Pair → ℤ → List ℕ → Entry
report_at life set m value = record { life = life; kind = kind.Report; series = set; moment = m; value = Some value; marked = refl }

-- one report sample of a scrape that started at m
abbrev pub report_entry : ℕ → List Pair → ℤ → Report → List ℕ → Entry
report_entry life target m r value = report_at life (report_set target r) m value

-- the value of `up`: 1 where the scrape is good, else 0
abbrev pub up_text : Bool → List ℕ
up_text up = if up then decimal 1 else decimal 0

-- the three reports that a life has besides where its job has extra reports, in their order
abbrev pub extra_order : List Report
extra_order = Timeout ∷ SampleLimit ∷ BodySize ∷ []

-- the reports of a life, in their order: five, and those three where its job has extra reports
abbrev pub report_order : Bool → List Report
report_order false = Up ∷ Duration ∷ Scraped ∷ Left ∷ Added ∷ []
report_order true = Up ∷ Duration ∷ Scraped ∷ Left ∷ Added ∷ extra_order

-- what an extra report says; the timeout is in seconds with three decimals
abbrev pub extra_value : ExtraCounts → Report → List ℕ
extra_value e Timeout = seconds3 (number e.timeout)
extra_value e SampleLimit = decimal e.limit
extra_value e BodySize = signed_decimal e.size
extra_value e _ = []

-- what a report of a scrape says; the duration is in seconds with three decimals
abbrev pub report_value : ReportCounts → Report → List ℕ
report_value c Up = up_text c.up
report_value c Duration = seconds3 (number c.took)
report_value c Scraped = decimal c.scraped
report_value c Left = decimal c.left
report_value c Added = decimal c.added
report_value c r = option_map_or (λ (e : ExtraCounts). extra_value e r) c.extra []

-- the reports of a scrape that started at m, in their order: those of its life
abbrev pub report_entries : ℕ → List Pair → ℤ → ReportCounts → List Entry
report_entries life target m c = map (λ (r : Report). report_entry life target m r (report_value c r)) (report_order (is_some c.extra))

-- the five that each life has
abbrev pub first_entries : ℕ → List Pair → ℤ → ReportCounts → List Entry
first_entries life target m c = map (λ (r : Report). report_entry life target m r (report_value c r)) (report_order false)

-- the extra ones
abbrev pub extra_entries : ℕ → List Pair → ℤ → ExtraCounts → List Entry
extra_entries life target m e = map (λ (r : Report). report_entry life target m r (extra_value e r)) extra_order
