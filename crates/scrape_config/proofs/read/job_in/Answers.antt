use Rattle.std.proofs.Common.{codes}
use Rattle.serde_json.specs.View.{view}
use Rattle.config_fields.specs.Places.{item_place}
use Rattle.scrape_config.specs.Values.{built, job_of}
use Rattle.scrape_config.specs.Reading as spec
use Rattle.scrape_config.proofs.JobLemmas.{metric_fine, target_fine}
use Rattle.scrape_config.proofs.PatternLemmas.{cause_first, cause_second}
use Rattle.scrape_config.proofs.read.job_in.Goals as goal

pub rules_in-requires : goal.rules_in-requires
rules_in-requires c =
    record { fine = rw (c.as_slice-metric.ensures, c.in_ok-conf.ensures) (metric_fine c.args.base (item_place spec.jobs_place c.args.index) (view c.args.value.now) c.requires.clean) }

pub rules_in-requires-2 : goal.rules_in-requires-2
rules_in-requires-2 c =
    record { fine = rw (c.as_slice-target.ensures, c.in_ok-conf.ensures) (target_fine c.args.base (item_place spec.jobs_place c.args.index) (view c.args.value.now) c.requires.clean) }

pub returns-in-Err-clause-first : goal.returns-in-Err-clause-first
unfolding built
returns-in-Err-clause-first c =
    let job = job_of c.args.base (view c.args.value.now) in
    cause_first (spec.rules_pattern (spec.rules_place c.args.index (codes "metric_relabel_configs")) job.metric_relabel) (spec.rules_pattern (spec.rules_place c.args.index (codes "relabel_configs")) job.relabel) c.in-Err.error
    (rw (c.as_slice-metric.ensures, c.in_ok-conf.ensures) at c.in-Err.ensures.first)

pub returns-in-Err-rules_in-clause-first : goal.returns-in-Err-rules_in-clause-first
unfolding built
returns-in-Err-rules_in-clause-first c =
    let job = job_of c.args.base (view c.args.value.now) in
    cause_second (spec.rules_pattern (spec.rules_place c.args.index (codes "metric_relabel_configs")) job.metric_relabel) (spec.rules_pattern (spec.rules_place c.args.index (codes "relabel_configs")) job.relabel) c.in-Err-rules_in.error
    (rw (c.as_slice-metric.ensures, c.in_ok-conf.ensures) at c.in-Ok.ensures.none) (rw (c.as_slice-target.ensures, c.in_ok-conf.ensures) at c.in-Err-rules_in.ensures.first)
