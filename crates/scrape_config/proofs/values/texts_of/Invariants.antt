use Rattle.std.proofs.Common.{◌≡◌, ◌++◌, drop}
use Rattle.serde_json.specs.View.{items_view}
use Rattle.scrape_config.specs.Defaults.{texts_of}
use Rattle.scrape_config.proofs.values.texts_of.Given as goal

abbrev pub invariant-loop-value : goal.invariant-loop-value
invariant-loop-value l = l.items.items ++ texts_of (items_view (drop l.value-index l.values)) ≡ texts_of (items_view l.values)
