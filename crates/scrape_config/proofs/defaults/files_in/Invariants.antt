use Rattle.std.proofs.Common.{◌≡◌, [], drop}
use Rattle.serde_json.specs.View.{items_view}
use Rattle.scrape_config.specs.Defaults.{once, listed_files}
use Rattle.scrape_config.proofs.defaults.files_in.Given as goal

abbrev pub invariant-loop-list : goal.invariant-loop-list
invariant-loop-list l = once l.seen.keys (listed_files (items_view (drop l.list-index l.lists))) ≡ once [] (listed_files (items_view l.lists))
