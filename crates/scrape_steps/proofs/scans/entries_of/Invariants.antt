use Rattle.std.proofs.Common.{◌≡◌, take}
use Rattle.std.specs.List.{flat_map}
use Rattle.scrape_steps.specs.Scans.{swept_entries}
use Rattle.scrape_steps.specs.Concerned.{concerned}
use Rattle.scrape_steps.proofs.scans.entries_of.Given as goal

abbrev pub invariant-loop-index : goal.invariant-loop-index
invariant-loop-index l = l.entries.items ≡ flat_map (swept_entries l.jobs l.moment) (take l.index (concerned l.lives))
