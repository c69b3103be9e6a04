use Rattle.std.proofs.Common.{◌≡◌, ◌++◌}
use Rattle.serde_json.specs.View.{members_view}
use Rattle.scrape_config.specs.Values.{pairs_of}
use Rattle.scrape_config.proofs.values.pairs_of.Given as goal

abbrev pub invariant-loop-name : goal.invariant-loop-name
invariant-loop-name l = l.items.items ++ pairs_of (members_view l.name-iterator) ≡ pairs_of (members_view l.object.entries)
