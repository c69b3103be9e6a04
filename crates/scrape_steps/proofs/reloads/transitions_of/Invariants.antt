use Rattle.std.proofs.Common.{◌≡◌, map, take}
use Rattle.scrape_steps.specs.Plans.{transition_of}
use Rattle.scrape_steps.specs.Concerned.{concerned}
use Rattle.scrape_steps.proofs.reloads.transitions_of.Given as goal

abbrev pub invariant-loop-index : goal.invariant-loop-index
invariant-loop-index l = l.transitions.items ≡ map (transition_of l.names l.news l.differences) (take l.index (concerned l.lives))
