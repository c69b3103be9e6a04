use Rattle.std.proofs.Common.{◌≡◌, ◌++◌, map, take}
use Rattle.report_samples.specs.Markers.{stale_entry}
use Rattle.scrape_loop.proofs.scrape_entries.push_stale.Given as goal

abbrev pub invariant-loop-set : goal.invariant-loop-set
invariant-loop-set l = l.entries.items ≡ l.fn.entries.items ++ map (stale_entry l.life l.moment) (take l.set-index l.sets)
