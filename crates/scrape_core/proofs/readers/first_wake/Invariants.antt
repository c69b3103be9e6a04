use Rattle.std.proofs.Common.{◌≡◌, ℕ, take}
use Rattle.std.specs.List.{list_any}
use Rattle.scrape_steps.specs.Concerned.{concerned}
use Rattle.scrape_core.specs.Readers.{acts}
use Rattle.scrape_core.specs.Wakes.{reached}
use Rattle.scrape_core.proofs.readers.first_wake.Given as goal

abbrev pub invariant-loop-index : goal.invariant-loop-index
invariant-loop-index l = (n : ℕ) → list_any (acts n) (take l.index (concerned l.lives)) ≡ reached n l.first
