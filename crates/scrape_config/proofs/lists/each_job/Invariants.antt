use Rattle.std.proofs.Common.{◌≡◌, drop}
use Rattle.serde_json.specs.View.{items_view}
use Rattle.config_fields.specs.Faults.{best}
use Rattle.scrape_config.specs.Lists.{jobs_walk}
use Rattle.scrape_config.proofs.lists.each_job.Given as goal

abbrev pub invariant-loop-value : goal.invariant-loop-value
invariant-loop-value l =
    record {
      counted : l.index ≡ l.value-index;
      reported : best l.found (jobs_walk l.base l.place l.index (items_view (drop l.value-index l.values))) ≡ best l.fn.found (jobs_walk l.base l.place 0 (items_view l.values));
    }
