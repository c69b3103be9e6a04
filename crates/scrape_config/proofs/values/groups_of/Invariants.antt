use Rattle.std.proofs.Common.{◌≡◌, ◌++◌, drop, option_map}
use Rattle.serde_json.specs.View.{items_view}
use Rattle.scrape_config.specs.Values.{groups_of}
use Rattle.scrape_config.proofs.values.groups_of.Given as goal

abbrev pub invariant-loop-value : goal.invariant-loop-value
invariant-loop-value l = l.items.items ++ groups_of (option_map (λ s. s.now) l.fn.file) (items_view (drop l.value-index l.values)) ≡ groups_of (option_map (λ s. s.now) l.file) (items_view l.values)
