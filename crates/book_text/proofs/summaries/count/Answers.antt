use Rattle.std.proofs.Common.{rules}
use Rattle.report_samples.specs.declared.entries.Kind.TheVariants.{Scraped, Stale, Report, ReportStale}
use Rattle.book_text.proofs.summaries.count.Goals as goal

pub overflow_add-result : goal.overflow_add-result
overflow_add-result c = let few = c.requires.few Scraped in search (rules, few)

pub overflow_add-result-in-Stale : goal.overflow_add-result-in-Stale
overflow_add-result-in-Stale c = let few = c.requires.few Stale in search (rules, few)

pub overflow_add-result-in-Report : goal.overflow_add-result-in-Report
overflow_add-result-in-Report c = let few = c.requires.few Report in search (rules, few)

pub overflow_add-result-in-ReportStale : goal.overflow_add-result-in-ReportStale
overflow_add-result-in-ReportStale c = let few = c.requires.few ReportStale in search (rules, few)
