use Rattle.std.proofs.Common.{◌≡◌, drop, nat_lt}
use Rattle.serde_json.specs.View.{items_view}
use Rattle.scrape_config.specs.Counts.{most_targets}
use Rattle.scrape_config.specs.Defaults.{target_count}
use Rattle.scrape_config.proofs.defaults.has_too_many_targets.Given as goal

abbrev pub invariant-loop-group : goal.invariant-loop-group
invariant-loop-group l = nat_lt l.left (target_count (items_view (drop l.group-index l.groups))) ≡ nat_lt most_targets (target_count (items_view l.groups))
