-- What is worked out of a new configuration before anything changes.
use Rattle.std.specs.Prelude.{◌≡◌, ℕ, ◌+◌, ℤ, Bool, true, false, not, ◌&&◌, ◌||◌, List, [], ◌∷◌, ◌++◌, length, filter, slice_get, Option, Some, None, nat_eq, if◌then◌else◌}
use Rattle.std.specs.List.{list_any}
use Rattle.std.specs.Ordering.{is_eq}
use Rattle.label_set.specs.Sets.{set_cmp}
use Rattle.label_set.specs.declared.texts.Pair.{Pair}
use Rattle.life_roll.specs.Names.{place_in}
use Rattle.life_roll.specs.Seats.{has_seat}
use Rattle.life_roll.specs.declared.seats.Seats.{Seats}
use Rattle.target_set.specs.declared.targets.Target.{Target}
use Rattle.scrape_steps.specs.declared.acts.Transition.{Transition}
use Rattle.scrape_steps.specs.declared.acts.Transition.TheVariants.{Stays, Changes, Closes}
use Rattle.jobs_in_force.specs.declared.jobs.InForce.{InForce}
use Rattle.scrape_machine.specs.declared.lives.Life.{Life}
use Rattle.scrape_machine.specs.declared.lives.Local.{Local}
use Rattle.scrape_machine.specs.declared.lives.Local.TheVariants.{Nothing, Change, Close}
use Rattle.scrape_machine.specs.declared.lives.Difference.{Difference}
use Rattle.scrape_machine.specs.declared.lives.Difference.TheVariants as difference
use Rattle.jobs_in_force.specs.Jobs.{has_target}
use Rattle.scrape_machine.specs.Lives.{is_open, life_after}
use Rattle.scrape_machine.specs.Machine.{born_all, job_name, name_of}

-- what becomes of a life at m, as what the event is to it
abbrev pub local_of : ℤ → Transition → Local
local_of m Stays = Nothing
local_of m (Changes s) = Change m s
local_of m Closes = Close m

-- each life after what becomes of it
abbrev pub after_each : ℤ → List Transition → List Life → List Life
after_each m [] ls = ls
after_each m (f ∷ fs) [] = []
after_each m (f ∷ fs) (l ∷ ls) = life_after (local_of m f) l ∷ after_each m fs ls

-- what stands at a place, if there is one
abbrev pub look : {A : Type 0} → List A → Option ℕ → Option A
look xs None = None
look xs (Some p) = slice_get xs p

-- what becomes of a life whose job is at a place of the new configuration
abbrev pub transition_by : Difference → Transition
transition_by difference.Incompatible = Closes
transition_by difference.Same = Stays
transition_by (difference.Changed s) = Changes s

abbrev pub transition_at : Life → Option InForce → Option Difference → Transition
transition_at l None v = Closes
transition_at l (Some after) None = Closes
transition_at l (Some after) (Some v) = if has_target l.identity after then transition_by v else Closes

abbrev pub transition_of : List (List ℕ) → List InForce → List Difference → Life → Transition
transition_of names news differences l =
    if is_open l then transition_at l (look news (place_in (job_name l) names)) (look differences (place_in (job_name l) names)) else Stays

-- an open life has this target of the job whose name has this place
abbrev pub is_place : ℕ → Option ℕ → Bool
is_place place None = false
is_place place (Some p) = nat_eq place p

abbrev pub sits : List (List ℕ) → ℕ → List Pair → Life → Bool
sits names place identity l = is_open l && (is_place place (place_in (job_name l) names) && is_eq (set_cmp identity l.identity))

abbrev pub IsHeld : Seats → List (List ℕ) → List Life → Type 0
IsHeld seats names ls = (place : ℕ) (identity : List Pair) → has_seat seats place identity ≡ list_any (sits names place identity) ls

-- held targets with that of a life, if it is open
abbrev pub IsHeldWith : Seats → Seats → List (List ℕ) → Life → Type 0
IsHeldWith new old names l = (place : ℕ) (identity : List Pair) →
    has_seat new place identity ≡ (sits names place identity l || has_seat old place identity)

-- a life is closed
abbrev pub closes : Transition → Bool
closes Stays = false
closes (Changes s) = false
closes Closes = true

-- a target of the job whose name has a place is among the held ones
abbrev pub is_seated : Seats → List Pair → Option ℕ → Bool
is_seated held identity None = false
is_seated held identity (Some p) = has_seat held p identity

-- the targets of a job that are not, by the place of its name
abbrev pub unseated : Seats → List (List ℕ) → InForce → List Target
unseated held names j = filter (λ (t : Target). not (is_seated held t.identity (place_in (name_of j) names))) j.kept

-- the lives that they begin, numbered from n
abbrev pub births_by : ℕ → ℕ → Seats → List (List ℕ) → List InForce → List Life
births_by m n held names [] = []
births_by m n held names (j ∷ js) = born_all m n j (unseated held names j) ++ births_by m (n + length (unseated held names j)) held names js
