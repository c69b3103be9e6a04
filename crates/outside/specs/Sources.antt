-- What contracts see of inputs, and what their reads say.
use Rattle.std.specs.Prelude.{◌≡◌, ℕ, ◌+◌, List, [], ◌++◌, length, Option, Some, IfSome}
use Rattle.outside.specs.Objects.{Use, Rose}

-- an input: what its reads still give, where that is known, how many bytes they gave, and how often a read has failed
pub record SourceSeen : Type 0 where
  pub left : Option (List ℕ)
  pub given : ℕ
  pub faults : ℕ

-- where it was known what is left, that was these bytes and what is known now
abbrev pub Gives : List ℕ → Option (List ℕ) → Option (List ℕ) → Type 0
Gives bytes before after = IfSome before (λ had. (rest : List ℕ) × (after ≡ Some rest) × (had ≡ bytes ++ rest))

-- where it is known what is left, that is nothing
abbrev pub IsAtEnd : Option (List ℕ) → Type 0
IsAtEnd left = IfSome left (λ had. had ≡ [])

-- the input gave these bytes, and counted no fault
pub record Gave (bytes : List ℕ) (u : Use SourceSeen) : Type 0 where
  pub left : Gives bytes u.before.left u.after.left
  pub given : u.after.given ≡ u.before.given + length bytes
  pub sound : u.after.faults ≡ u.before.faults

-- it failed: it counted that, and nothing else of it changed
pub record FailedToGive (u : Use SourceSeen) : Type 0 where
  pub counted : Rose u.before.faults u.after.faults
  pub rest : u.after ≡ record u.before { faults = u.after.faults }
