use Rattle.std.proofs.Common.{◌≡◌, drop}
use Rattle.serde_json.specs.View.{items_view}
use Rattle.config_fields.specs.Faults.{best}
use Rattle.scrape_config.specs.Lists.{objects_faults}
use Rattle.scrape_config.proofs.lists.objects.Given as goal

abbrev pub invariant-loop-value : goal.invariant-loop-value
invariant-loop-value l =
    record {
      counted : l.index ≡ l.value-index;
      reported : best l.found (objects_faults l.list l.place l.index (items_view (drop l.value-index l.values))) ≡ best l.fn.found (objects_faults l.list l.place 0 (items_view l.values));
    }
