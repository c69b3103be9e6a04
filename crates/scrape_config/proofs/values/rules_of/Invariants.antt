use Rattle.std.proofs.Common.{◌≡◌, ◌++◌, drop}
use Rattle.serde_json.specs.View.{items_view}
use Rattle.scrape_config.specs.Values.{rules_of}
use Rattle.scrape_config.proofs.values.rules_of.Given as goal

abbrev pub invariant-loop-value : goal.invariant-loop-value
invariant-loop-value l = l.items.items ++ rules_of (items_view (drop l.value-index l.values)) ≡ rules_of (items_view l.values)
