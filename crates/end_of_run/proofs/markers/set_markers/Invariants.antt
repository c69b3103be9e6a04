use Rattle.std.proofs.Common.{◌≡◌, map, take}
use Rattle.report_samples.specs.Markers.{stale_entry}
use Rattle.end_of_run.proofs.markers.set_markers.Given as goal

abbrev pub invariant-loop-set : goal.invariant-loop-set
invariant-loop-set l = l.items.items ≡ map (stale_entry l.life l.moment) (take l.set-index l.sets)
