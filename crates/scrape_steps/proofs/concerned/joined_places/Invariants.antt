use Rattle.std.proofs.Common.{◌≡◌, ◌++◌, map, take}
use Rattle.scrape_steps.specs.Endings.{life_of}
use Rattle.scrape_steps.proofs.concerned.joined_places.Given as goal

abbrev pub invariant-loop-ending : goal.invariant-loop-ending
invariant-loop-ending l = l.places.items ≡ l.listed ++ map life_of (take l.ending-index l.due)
