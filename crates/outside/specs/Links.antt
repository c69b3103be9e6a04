-- What contracts see of links, and what their calls say.
use Rattle.std.specs.Prelude.{◌≡◌, ◌<◌, ℕ, List, ◌++◌, length, Bool, true, false, Option, Some, IfSome}
use Rattle.outside.specs.Objects.{Use, Rose}
use Rattle.outside.specs.Sources.{Gives}

-- a link: whether it is dialled and not hung up since, what was sent on it and what its reads still give, where they are known, and how often a call failed
pub record LinkSeen : Type 0 where
  pub dialled : Bool
  pub sent : Option (List ℕ)
  pub left : Option (List ℕ)
  pub faults : ℕ

-- it was dialled
abbrev pub WasDialled : Use LinkSeen → Type 0
WasDialled u = u.after ≡ record u.before { dialled = true }

-- it took these bytes
pub record TookToSend (bytes : List ℕ) (u : Use LinkSeen) : Type 0 where
  pub sent : IfSome u.before.sent (λ had. u.after.sent ≡ Some (had ++ bytes))
  pub rest : u.after ≡ record u.before { sent = u.after.sent }

-- of a piece that isn't empty a link takes at least one byte
abbrev pub TakesSome : ℕ → List ℕ → Type 0
TakesSome count piece = 0 < length piece → 0 < count

-- it gave these bytes
pub record GaveOfLink (bytes : List ℕ) (u : Use LinkSeen) : Type 0 where
  pub left : Gives bytes u.before.left u.after.left
  pub rest : u.after ≡ record u.before { left = u.after.left }

-- a call failed: it counted that, and neither what was sent nor what is left changed
pub record Broke (u : Use LinkSeen) : Type 0 where
  pub counted : Rose u.before.faults u.after.faults
  pub rest : u.after ≡ record u.before { dialled = u.after.dialled; faults = u.after.faults }

-- it was hung up
abbrev pub WasHungUp : Use LinkSeen → Type 0
WasHungUp u = u.after ≡ record u.before { dialled = false }
