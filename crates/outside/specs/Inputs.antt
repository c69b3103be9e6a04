-- Inputs in memory.
use Rattle.std.specs.Prelude.{ℕ, List, Some}
use Rattle.outside.specs.Sources.{SourceSeen}

-- an input: what is left of its bytes, and how many it gave
pub record SourceView : Type 0 where
  pub left : List ℕ
  pub given : ℕ

-- an input that is to fail at some of its calls, which are numbered from 0
pub record FailingSourceView : Type 0 where
  pub left : List ℕ
  pub given : ℕ
  pub fails : List ℕ
  pub calls : ℕ
  pub faults : ℕ

-- what contracts see of it: all that it has, and its counts
abbrev pub failing_source_seen : FailingSourceView → SourceSeen
failing_source_seen s = record { left = Some s.left; given = s.given; faults = s.faults }
