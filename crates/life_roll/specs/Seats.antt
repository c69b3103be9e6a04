-- Targets of jobs as sets: whether one is there.
use Rattle.std.specs.Prelude.{◌≡◌, ℕ, Bool, ◌&&◌, ◌||◌, List, nat_eq}
use Rattle.std.specs.List.{list_any}
use Rattle.std.specs.Ordering.{is_eq}
use Rattle.label_set.specs.Sets.{set_cmp}
use Rattle.label_set.specs.declared.texts.Pair.{Pair}
use Rattle.life_roll.specs.declared.seats.Seat.{Seat}
use Rattle.life_roll.specs.declared.seats.Seats.{Seats}

-- it is this target of this job
abbrev pub is_seat : ℕ → List Pair → Seat → Bool
is_seat job identity s = nat_eq job s.job && is_eq (set_cmp identity s.identity)

abbrev pub has_seat : Seats → ℕ → List Pair → Bool
has_seat seats job identity = list_any (is_seat job identity) seats.set.keys

-- just those are there of which this is true
abbrev pub IsSeats : Seats → (ℕ → List Pair → Bool) → Type 0
IsSeats seats test = (job : ℕ) (identity : List Pair) → has_seat seats job identity ≡ test job identity

-- one more is there
abbrev pub IsWith : Seats → Seats → Seat → Type 0
IsWith new old s = (job : ℕ) (identity : List Pair) → has_seat new job identity ≡ (is_seat job identity s || has_seat old job identity)
