use Rattle.std.proofs.Common.{◌≡◌, ◌++◌}
use Rattle.scrape_config.proofs.defaults.names_of.Given as goal

abbrev pub invariant-loop-name : goal.invariant-loop-name
invariant-loop-name l = l.items.items ++ l.name-iterator ≡ l.fn.seen.keys
