use Rattle.std.proofs.Common.{◌≡◌, take}
use Rattle.federation.specs.Federations.{IsFederationOf}
use Rattle.federation.proofs.federations.federated.Given as goal

pub record Seeing (l : goal.Live-loop-selector) : Type 0 where
  pub same : l.view ≡ l.fn.view
  pub seen : IsFederationOf l.fn.view (take l.selector-index l.selectors) l.moment l.rows.items

abbrev pub invariant-loop-selector : goal.invariant-loop-selector
invariant-loop-selector l = Seeing l
