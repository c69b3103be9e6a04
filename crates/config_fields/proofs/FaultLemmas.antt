-- Laws of the fault that is reported.
use Rattle.std.proofs.Common.{◌≡◌, ℕ, Bool, true, false, List, [], ◌∷◌, ◌++◌, refl, Option, None, Some, if◌then◌else◌}
use Rattle.config_fields.specs.Faults.{number_of, is_reported_over, better, best, reported}
use Rattle.config_fields.specs.Walks.{flaws, of_shape}
use Rattle.config_fields.specs.declared.fault.ConfFault.{ConfFault}
use Rattle.config_fields.specs.declared.fault.Flaw.{Flaw}

-- the fault of two lists is that of the second, where that of the first was found before
pub best_after : (found : Option ConfFault) (fs gs : List ConfFault) → best found (fs ++ gs) ≡ best (best found fs) gs
best_after found [] gs = refl
best_after found (f ∷ fs) gs = best_after (better found f) fs gs

stays_by : (f g : ConfFault) (fs : List ConfFault) (b : Bool) → ((h : ConfFault) → best (Some h) fs ≡ None → ⊥) → best (if b then Some g else Some f) fs ≡ None → ⊥
stays_by f g fs true later e = later g e
stays_by f g fs false later e = later f e

stays : (f : ConfFault) (fs : List ConfFault) → best (Some f) fs ≡ None → ⊥
stays f [] e = absurd cc
stays f (g ∷ fs) e = stays_by f g fs (is_reported_over (number_of g) (Some f)) (λ h. stays h fs) e

-- where no fault is reported there is none
pub reported-none : (fs : List ConfFault) → reported fs ≡ None → fs ≡ []
reported-none [] e = refl
reported-none (f ∷ fs) e = absurd (stays f fs e)

-- two lists without faults
pub both_clean : (fs gs : List ConfFault) → fs ++ gs ≡ [] → (fs ≡ []) × (gs ≡ [])
both_clean [] gs e = (refl, e)
both_clean (f ∷ fs) gs e = absurd cc

pub flaws-clean : (place : List ℕ) (o : Option Flaw) → flaws place o ≡ [] → o ≡ None
flaws-clean place None e = refl
flaws-clean place (Some f) e = absurd cc

pub of_shape-clean : {A : Type 0} (place : List ℕ) (o : Option A) (inner : A → List ConfFault) → of_shape place o inner ≡ [] → (a : A) × (o ≡ Some a) × (inner a ≡ [])
of_shape-clean place None inner e = absurd cc
of_shape-clean place (Some a) inner e = (a, refl, e)
