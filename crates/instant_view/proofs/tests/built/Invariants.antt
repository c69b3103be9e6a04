use Rattle.std.proofs.Common.{◌≡◌, take, All}
use Rattle.instant_view.specs.Selectors.{IsBuilt}
use Rattle.instant_view.proofs.tests.built.Given as goal

pub record Building (l : goal.Live-loop-matcher) : Type 0 where
  pub built : l.built.items ≡ take l.matcher-index l.matchers
  pub read : All IsBuilt (take l.matcher-index l.matchers)

abbrev pub invariant-loop-matcher : goal.invariant-loop-matcher
invariant-loop-matcher l = Building l
