use Rattle.std.proofs.Common.{rules, ◌≡◌, ◌+◌, drop, ap, ◌∙◌}
use Rattle.serde_json.specs.View.{view, items_view}
use Rattle.config_fields.specs.Faults.{best}
use Rattle.config_fields.specs.Places.{item_place}
use Rattle.scrape_config.specs.Lists.{job_faults, jobs_walk}
use Rattle.scrape_config.proofs.ListLemmas.{next_item, told_next}
use Rattle.scrape_config.proofs.lists.each_job.Goals as goal

pub loop-value-preserved : goal.loop-value-preserved
loop-value-preserved c =
    let n = c.loop-value.index in
    let vs = c.args.values.now in
    let i = c.loop-value.value-index in
    let v = c.value-item.result in
    let rest = items_view (drop (i + 1) vs) in
    let place = c.args.place.now in
    let first = job_faults c.args.base (item_place place n) (view v) in
    let is_now : c.job.new.found ≡ best c.loop-value.found first = search rules in
    record {
      counted = ap (λ m. m + 1) c.loop-value.invariant.counted;
      reported = told_next c.loop-value.found c.job.new.found first (jobs_walk c.args.base place (n + 1) rest) (jobs_walk c.args.base place n (items_view (drop i vs))) is_now
          (ap (λ xs. jobs_walk c.args.base place n (items_view xs)) (next_item vs i v c.value-item.is c.loop-value-test.true))
          ∙ c.loop-value.invariant.reported;
    }
