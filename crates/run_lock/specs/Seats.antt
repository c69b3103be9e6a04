-- Seats at the lock of a run, by their passes.
use Rattle.std.specs.Prelude.{◌≡◌, ℕ, ◌+◌, List, [], ◌∷◌}
use Rattle.turn_lock.specs.Passes.{number_of, own_of, IsIdle, IsPassOf}
use Rattle.turn_lock.specs.declared.lock.Pass.{Pass}
use Rattle.turn_lock.specs.declared.lock.TurnLock.{TurnLock}

-- the pass of the lock with this number, which has no turn
abbrev pub IsOwn : {T E : Type 0} → TurnLock T E → ℕ → Pass T E → Type 0
IsOwn lock n p = IsPassOf lock p × IsIdle p × (number_of p ≡ n)

-- passes of the lock with the numbers from n on
abbrev pub AreOwn : {T E : Type 0} → TurnLock T E → ℕ → List (Pass T E) → Type 0
AreOwn lock n [] = Unit {0}
AreOwn lock n (p ∷ ps) = IsOwn lock n p × AreOwn lock (n + 1) ps

-- the same of passes that brought nothing
abbrev pub AreFresh : {T E : Type 0} → TurnLock T E → ℕ → List (Pass T E) → Type 0
AreFresh lock n [] = Unit {0}
AreFresh lock n (p ∷ ps) = IsOwn lock n p × (own_of p ≡ []) × AreFresh lock (n + 1) ps
