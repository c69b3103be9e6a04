use Rattle.std.proofs.Common.{◌≡◌, drop}
use Rattle.serde_json.specs.View.{items_view}
use Rattle.config_fields.specs.Faults.{best}
use Rattle.config_fields.specs.Walks.{item_faults}
use Rattle.config_fields.proofs.walks.items.Given as goal

abbrev pub invariant-loop-value : goal.invariant-loop-value
invariant-loop-value l =
    record {
      counted : l.index ≡ l.value-index;
      reported : best l.found (item_faults l.place l.index (items_view (drop l.value-index l.values))) ≡ best l.fn.found (item_faults l.place 0 (items_view l.values));
    }
