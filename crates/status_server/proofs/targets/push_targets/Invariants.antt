use Rattle.std.proofs.Common.{◌≡◌, ◌++◌, drop, map}
use Rattle.std.specs.List.{flat_map}
use Rattle.scrape_core.specs.OpenLives.{open_of, shown}
use Rattle.status_server.specs.Targets.{line, page}
use Rattle.status_server.proofs.targets.push_targets.Given as goal

abbrev pub invariant-loop-place : goal.invariant-loop-place
invariant-loop-place l = l.text.items ++ flat_map line (drop l.place (map shown (open_of l.core))) ≡ l.fn.text.items ++ page l.core
