-- The entries that a scrape appends to the book ("Staleness" of the Prometheus documentation; "Configuration", scrape_config: honor_timestamps;
-- "Feature flags", extra scrape metrics).
use Rattle.std.specs.Prelude.{ℕ, ℤ, pos, negsuc, false, List, ◌++◌, map, length, Option, Some, None, unwrap_or, if◌then◌else◌, refl}
use Rattle.label_set.specs.declared.texts.Pair.{Pair}
use Rattle.rule_conf.specs.declared.conf.RuleConf.{RuleConf}
use Rattle.report_samples.specs.declared.entries.Kind.TheVariants as kind
use Rattle.report_samples.specs.declared.entries.Entry.{Entry}
use Rattle.outside.specs.declared.replies.Reply.{Reply}
use Rattle.report_samples.specs.declared.scrape_reports.ExtraCounts.{ExtraCounts}
use Rattle.report_samples.specs.declared.scrape_reports.ReportCounts.{ReportCounts}
use Rattle.report_samples.specs.Markers.{stale_entry}
use Rattle.report_samples.specs.Reports.{report_entries}
use Rattle.sample_rows.specs.Outcomes.{body_of}
use Rattle.sample_rows.specs.declared.fault.ScrapeFault.{ScrapeFault}
use Rattle.sample_rows.specs.declared.fault.ScrapeFault.TheVariants as fault
use Rattle.sample_rows.specs.declared.scrape.RowRules.{RowRules}
use Rattle.sample_rows.specs.declared.scrape.Sample.{Sample}
use Rattle.sample_rows.specs.declared.scrape.Scrape.{Scrape}
use Rattle.sample_rows.specs.declared.scrape.Scrape.TheVariants.{Good, Bad}
use Rattle.series_cache.specs.Sets.{gone}
use Rattle.scrape_loop.specs.Tracked.{LifeView, outcome_for, samples_of, tracked_sets, all_sets, is_good, scraped_of, left_of}

-- the sample of a row of a scrape that started at m: at its own timestamp, or at m
abbrev pub sample_entry : ℕ → ℤ → Sample → Entry
sample_entry life m r = record { life = life; kind = kind.Scraped; series = r.set; moment = unwrap_or r.stamp m; value = Some r.value; marked = refl }

-- how many sets of a scrape the last good one didn't have; a bad scrape has no sets
abbrev pub added_count : List (List Pair) → Scrape → ℕ
added_count known s = length (gone (all_sets s) known)

-- the size that the reports say of a scrape with a fault: -1 where its body was too long, else 0
abbrev pub fault_size : ScrapeFault → ℤ
fault_size fault.Size = negsuc 0
fault_size _ = pos 0

-- the size that the reports say of a scrape whose body has so many bytes: these where it is good
abbrev pub size_of : Scrape → ℕ → ℤ
size_of (Good rows scraped) size = pos size
size_of (Bad f scraped left) size = fault_size f

-- what the extra reports say, where the job has these
abbrev pub extra_of : RowRules → ℤ → Option ExtraCounts
extra_of rules size =
    if rules.extra_scrape_metrics then Some (record { timeout = rules.timeout; limit = rules.limits.sample; size = size }) else None

-- what they say of a scrape with this reply
abbrev pub extra_for : RowRules → Scrape → Reply → Option ExtraCounts
extra_for rules s reply = extra_of rules (size_of s (length (body_of reply)))

-- what the reports say of a scrape that took so many milliseconds
abbrev pub counts_of : List (List Pair) → Option ExtraCounts → Scrape → ℤ → ReportCounts
counts_of known extra s took =
    record { up = is_good s; took = took; scraped = scraped_of s; left = left_of s; added = added_count known s; extra = extra }

-- the samples of a scrape that started at m, in the order of the body
abbrev pub sample_entries : LifeView → Scrape → ℤ → List Entry
sample_entries l s m = map (sample_entry l.life m) (samples_of s)

-- a stale marker at m for each set that was tracked before and isn't any more, sets rising
abbrev pub stale_entries : LifeView → Scrape → ℤ → List Entry
stale_entries l s m = map (stale_entry l.life m) (gone l.tracked (tracked_sets s))

-- the entries of a scrape that started at m and took so many milliseconds: its samples, the stale markers, and its reports at m,
-- the extra ones where it is said what they say
abbrev pub entries_of : LifeView → Option ExtraCounts → Scrape → ℤ → ℤ → List Entry
entries_of l extra s m took =
    sample_entries l s m ++ (stale_entries l s m ++ report_entries l.life l.target m (counts_of l.known extra s took))

-- those of a scrape of the life's target that started at m, by the job's rules, its reply and how long that took
abbrev pub entries_by : LifeView → RowRules → List RuleConf → Reply × ℤ → ℤ → List Entry
entries_by l rules metric (reply, took) m =
    entries_of l (extra_for rules (outcome_for l rules metric reply took) reply) (outcome_for l rules metric reply took) m took

-- what the reports of a scrape that isn't made say
abbrev pub no_counts : Option ExtraCounts → ReportCounts
no_counts extra = record { up = false; took = pos 0; scraped = 0; left = 0; added = 0; extra = extra }

-- the entries of a scrape that isn't made: a stale marker for each set that was tracked, and reports of nothing
abbrev pub forced_entries : LifeView → RowRules → ℤ → List Entry
forced_entries l rules m =
    map (stale_entry l.life m) l.tracked ++ report_entries l.life l.target m (no_counts (extra_of rules (pos 0)))
