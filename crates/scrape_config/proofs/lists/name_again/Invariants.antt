use Rattle.std.proofs.Common.{◌≡◌, [], drop}
use Rattle.serde_json.specs.View.{items_view}
use Rattle.scrape_config.specs.Lists.{names_of}
use Rattle.scrape_config.specs.Lists as spec
use Rattle.scrape_config.proofs.lists.name_again.Given as goal

abbrev pub invariant-loop-job : goal.invariant-loop-job
invariant-loop-job l = spec.name_again l.seen.keys (names_of (items_view (drop l.job-index l.jobs))) ≡ spec.name_again [] (names_of (items_view l.jobs))
