use Rattle.std.proofs.Common.{◌≡◌, ◌++◌, drop}
use Rattle.target_set.specs.Listed.{refused_from}
use Rattle.target_set.proofs.counts.refused_of.Given as goal

pub record Counting (l : goal.Live-loop-outcome) : Type 0 where
  pub place : l.place ≡ l.outcome-index
  pub items : l.items.items ++ refused_from l.outcome-index (drop l.outcome-index l.outcomes) ≡ refused_from 0 l.outcomes

abbrev pub invariant-loop-outcome : goal.invariant-loop-outcome
invariant-loop-outcome l = Counting l
