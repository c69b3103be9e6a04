-- What contracts see of clocks, and what their readings are.
use Rattle.std.specs.Prelude.{◌≡◌, ◌<◌, ◌^◌, ℤ, pos, negsuc, List, [], ◌∷◌, Option, Some}

-- a clock: the readings that it gives from here on, where they are known: those of a list, then the last of them again and again, and 0 where it has none
pub record ClockSeen : Type 0 where
  pub readings : Option (List ℤ)

-- from 0 to 2^52 - 1 milliseconds
abbrev pub IsReading : ℤ → Type 0
IsReading (pos n) = n < 2 ^ 52
IsReading (negsuc n) = ⊥

-- the next reading of such a list
abbrev pub next_reading : List ℤ → ℤ
next_reading [] = pos 0
next_reading (r ∷ rs) = r

-- what is left of the list then: the last reading stays
abbrev pub later_readings : List ℤ → List ℤ
later_readings [] = []
later_readings (r ∷ []) = r ∷ []
later_readings (r ∷ s ∷ rs) = s ∷ rs

-- the clock gave the next of these readings
pub record Reads (reading : ℤ) (readings : List ℤ) (after : Option (List ℤ)) : Type 0 where
  pub next : reading ≡ next_reading readings
  pub later : after ≡ Some (later_readings readings)
