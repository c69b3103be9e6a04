-- Scrapes in flight: which tickets have one, whether it is valid, and what becomes of it. That a scrape stays in flight until its finish,
-- and is no longer valid once its life was closed, changed or cancelled, are rules of this project.
use Rattle.std.specs.Prelude.{◌≡◌, ⊤, ℕ, ℤ, Bool, true, false, not, ◌&&◌, ◌==◌, List, slice_get, slice_set, Option, Some, None, option_and_then, if◌then◌else◌}
use Rattle.std.specs.Option.{option_map_or}
use Rattle.life_roll.specs.declared.schedule.InFlight.{InFlight}
use Rattle.life_roll.specs.declared.seats.Seat.{Seat}
use Rattle.life_roll.specs.declared.wanted.Terms.{Terms}
use Rattle.life_roll.specs.declared.lives.Life.{Life}
use Rattle.life_roll.specs.declared.lives.Start.{Start}
use Rattle.life_roll.specs.declared.answers.Began.{Began}
use Rattle.life_roll.specs.declared.answers.Began.TheVariants.{Started, Forced}
use Rattle.life_roll.specs.declared.answers.Flight.{Flight}
use Rattle.life_roll.specs.Schedules.{is_open, landed}
use Rattle.life_roll.specs.Rolls.{RollView, rescheduled}

-- the life has the scrape in flight
abbrev pub is_flight : ℕ → Option InFlight → Bool
is_flight k None = false
is_flight k (Some f) = f.ticket == k

abbrev pub flies : ℕ → Option Life → Bool
flies k None = false
flies k (Some l) = is_flight k l.schedule.flight

-- a started scrape that hasn't had its finish; it is valid where its life still has it in flight
abbrev pub flight_from : List Life → ℕ → Start → Option Flight
flight_from ls k s = if s.landed then None else Some (record { life = s.life; moment = s.moment; valid = flies k (slice_get ls s.life) })

abbrev pub flight_of : RollView → ℕ → Option Flight
flight_of r k = option_and_then (flight_from r.lives k) (slice_get r.started k)

-- the scrape with ticket k has had its finish
abbrev pub finished : ℕ → List Start → List Start
finished k ss = option_map_or (λ (s : Start). slice_set ss k (record s { landed = true })) (slice_get ss k) ss

-- and where it was valid, its life has nothing in flight
abbrev pub freed : Option Flight → List Life → List Life
freed None ls = ls
freed (Some f) ls = if f.valid then rescheduled f.life landed ls else ls

-- the scrape of life n that began at m, if it has a ticket, is in flight
abbrev pub IsInFlight : RollView → ℤ → ℕ → Began → Type 0
IsInFlight r m n (Started k) = flight_of r k ≡ Some (record { life = n; moment = m; valid = true })
IsInFlight r m n Forced = ⊤

-- the flight, where the scrape of life n in flight is cancelled
abbrev pub cancelled : ℕ → Flight → Flight
cancelled n f = record f { valid = f.valid && not (f.life == n) }

-- a life goes on as it was on these terms
abbrev pub goes_on : Option Terms → Bool
goes_on None = false
goes_on (Some t) = t.compatible && t.same

-- the wanted targets close or change the life
abbrev pub disturbs : (Seat → Option Terms) → Life → Bool
disturbs terms l = is_open l.schedule && not (goes_on (terms l.seat))

-- the flight, where the scrapes in flight of those lives are cancelled
abbrev pub flight_after : (Seat → Option Terms) → List Life → Flight → Flight
flight_after terms ls f = record f { valid = f.valid && not (option_map_or (disturbs terms) (slice_get ls f.life) false) }
