-- What is wanted of the targets of jobs, by its first mention.
use Rattle.std.specs.Prelude.{◌≡◌, ◌≤◌, ◌^◌, Bool, List, All, Option, Some, None, option_map, find, if◌then◌else◌}
use Rattle.std.specs.Option.{option_or}
use Rattle.std.specs.HashMap.{get_by}
use Rattle.value_text.specs.Numbers.{number}
use Rattle.life_roll.specs.declared.seats.Seat.{Seat}
use Rattle.life_roll.specs.declared.wanted.Terms.{Terms}
use Rattle.life_roll.specs.declared.wanted.Wanted.{Wanted}
use Rattle.life_roll.specs.declared.wanted.Wishes.{Wishes}
use Rattle.life_roll.specs.Seats.{is_seat}

-- the intervals are from 1 to 2^40 milliseconds
abbrev pub HasInterval : Wanted → Type 0
HasInterval w = (1 ≤ number w.interval) × (number w.interval ≤ 2 ^ 40)

abbrev pub HaveIntervals : List Wanted → Type 0
HaveIntervals ws = All HasInterval ws

-- the target that is wanted, and the terms
abbrev pub seat_of : Wanted → Seat
seat_of w = record { job = w.job; identity = w.identity }

abbrev pub terms_of : Wanted → Terms
terms_of w = record { same = w.same; compatible = w.compatible; interval = number w.interval }

-- they are one target of one job
abbrev pub same_seat : Seat → Seat → Bool
same_seat s t = is_seat s.job s.identity t

-- the terms on which a target is wanted, if it is
abbrev pub terms_at : List Wanted → Seat → Option Terms
terms_at ws s = option_map terms_of (find (λ (w : Wanted). same_seat s (seat_of w)) ws)

-- the terms that are found of a target
abbrev pub found : Wishes → Seat → Option Terms
found wishes s = get_by (same_seat s) wishes.map

-- just those are found on which a target is wanted
abbrev pub AreWishes : Wishes → List Wanted → Type 0
AreWishes wishes ws = (s : Seat) → found wishes s ≡ terms_at ws s

-- these terms too, where the target had none
abbrev pub IsWithTerms : Wishes → Wishes → Seat → Terms → Type 0
IsWithTerms new old seat terms = (s : Seat) → found new s ≡ option_or (found old s) (if same_seat s seat then Some terms else None)
