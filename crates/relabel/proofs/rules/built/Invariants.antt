use Rattle.std.proofs.Common.{◌≡◌, take, drop, All}
use Rattle.relabel.specs.Refusals.{HasPattern, first_bad_pattern}
use Rattle.relabel.proofs.rules.built.Given as goal

pub record Building (l : goal.Live-loop-conf) : Type 0 where
  pub number : l.number ≡ l.conf-index
  pub built : l.built.items ≡ take l.conf-index l.rules
  pub read : All HasPattern (take l.conf-index l.rules)
  pub patterns : first_bad_pattern l.conf-index (drop l.conf-index l.rules) ≡ first_bad_pattern 0 l.rules

abbrev pub invariant-loop-conf : goal.invariant-loop-conf
invariant-loop-conf l = Building l
