-- The flight law and the finish law: how long a started scrape is in flight, and what its finish comes to, in the words of the events between.
use Rattle.std.specs.Prelude.{◌≡◌, ℕ, ℤ, Bool, true, false, not, ◌&&◌, ◌||◌, List, [], ◌∷◌, ◌++◌, length, slice_get, ◌==◌, Option, Some, None, if◌then◌else◌}
use Rattle.outside.specs.declared.replies.Reply.{Reply}
use Rattle.journal_text.specs.declared.events.Event.{Event}
use Rattle.journal_text.specs.declared.events.Event.TheVariants.{Load, Targets, Tick, Sweep, Finish, Halt}
use Rattle.journal_text.specs.Lines.{number}
use Rattle.life_roll.specs.declared.schedule.InFlight.{InFlight}
use Rattle.jobs_in_force.specs.declared.jobs.InForce.{InForce}
use Rattle.jobs_in_force.specs.Jobs.{job_named, has_target}
use Rattle.scrape_machine.specs.declared.lives.Life.{Life}
use Rattle.scrape_machine.specs.declared.lives.StartedScrape.{StartedScrape}
use Rattle.scrape_machine.specs.declared.lives.TicketState.{TicketState}
use Rattle.scrape_machine.specs.declared.lives.TicketState.TheVariants.{NotStarted, Cancelled, Counts}
use Rattle.scrape_machine.specs.declared.lives.Difference.{Difference}
use Rattle.scrape_machine.specs.declared.lives.Difference.TheVariants.{Incompatible, Same, Changed}
use Rattle.scrape_machine.specs.Lives.{is_open}
use Rattle.scrape_machine.specs.Machine.{World, new_jobs, job_name, difference, starts_in, ticket_in_sweep, found, finish_answer, step, run, world_of, answer}

-- since when the flight has ticket k, if it has
abbrev pub since : ℕ → Option InFlight → Option ℤ
since k None = None
since k (Some f) = if f.ticket == k then Some f.moment else None

-- since when a life has scrape k in flight, if it has
abbrev pub life_since : ℕ → Option Life → Option ℤ
life_since k None = None
life_since k (Some l) = since k l.schedule.flight

-- since when scrape k of life n is in flight, if it is
abbrev pub in_flight_since : World → ℕ → ℕ → Option ℤ
in_flight_since w n k = life_since k (slice_get w.lives n)

-- a scrape with ticket k that starts at m, if one does
abbrev pub start_if : Bool → ℕ → ℤ → Option InFlight
start_if b k m = if b then Some (record { ticket = k; moment = m }) else None

-- the scrape of life n that a live event starts, if it does: a scan starts it, with the next ticket
abbrev pub start_by : World → Event → ℕ → Life → Option InFlight
start_by w (Load m text) n l = None
start_by w (Targets m name file text) n l = None
start_by w (Tick m k) n l = start_if ((k == n) && starts_in w.jobs (number m) l) (length w.started) m
start_by w (Sweep m) n l = start_if (starts_in w.jobs (number m) l) (ticket_in_sweep w (number m) n) m
start_by w (Finish k took r) n l = None
start_by w (Halt m) n l = None

-- a live event starts scrape f of life n
pub record Starts (w : World) (e : Event) (n : ℕ) (f : InFlight) : Type 0 where
  pub live : w.halted ≡ false
  pub life : Life
  pub is_life : slice_get w.lives n ≡ Some life
  pub started : start_by w e n life ≡ Some f

-- the event is a finish of ticket k
abbrev pub is_finish_of : ℕ → Event → Bool
is_finish_of k (Load m text) = false
is_finish_of k (Targets m name file text) = false
is_finish_of k (Tick m j) = false
is_finish_of k (Sweep m) = false
is_finish_of k (Finish j took r) = j == k
is_finish_of k (Halt m) = false

-- the settings of a job are the same as before
abbrev pub is_unchanged : Difference → Bool
is_unchanged Incompatible = false
is_unchanged Same = true
is_unchanged (Changed s) = false

-- the job of a new configuration, if there is one, leaves a life as it is: it has the life's target, and the settings are as before
abbrev pub leaves_by : List InForce → Life → Option InForce → Bool
leaves_by jobs l None = false
leaves_by jobs l (Some after) = has_target l.identity after && is_unchanged (difference jobs after)

-- a new configuration leaves a life as it is, by its job of the same name
abbrev pub leaves : List InForce → List InForce → Life → Bool
leaves jobs news l = leaves_by jobs l (job_named (job_name l) news)

-- a load or an update closes or changes a life: it isn't refused, the life is open, and the new configuration doesn't leave it as it is
abbrev pub reload_touches : List InForce → Option (List InForce) → Life → Bool
reload_touches jobs None l = false
reload_touches jobs (Some news) l = is_open l && not (leaves jobs news l)

-- the event closes or changes the life
abbrev pub touches : World → Event → Option Life → Bool
touches w e None = false
touches w e (Some l) = reload_touches w.jobs (new_jobs w.jobs e) l

-- a live finish of the ticket, or a live event that closes or changes the life
abbrev pub ends_flight : World → ℕ → ℕ → Event → Bool
ends_flight w n k e = not w.halted && (is_finish_of k e || touches w e (slice_get w.lives n))

-- none of these events ends the flight
abbrev pub stays : World → ℕ → ℕ → List Event → Bool
stays w n k [] = true
stays w n k (e ∷ es) = not (ends_flight w n k e) && stays (step w e) n k es

-- a live finish of the ticket is among these
abbrev pub has_finish : World → ℕ → List Event → Bool
has_finish w k [] = false
has_finish w k (e ∷ es) = (not w.halted && is_finish_of k e) || has_finish (step w e) k es

-- a scrape is in flight from its start until the first finish of its ticket, or until an event closes or changes its life;
-- it is its life's, and had its finish from the first finish after its start
pub record FlightLaw (w : World) (e : Event) (n : ℕ) (f : InFlight) (es : List Event) : Type 0 where
  pub flight : in_flight_since (run (step w e) es) n f.ticket ≡ (if stays (step w e) n f.ticket es then Some f.moment else None)
  pub ticket : StartedScrape
  pub is_ticket : slice_get (run (step w e) es).started f.ticket ≡ Some ticket
  pub of_life : ticket.life ≡ n
  pub finished : ticket.finished ≡ has_finish (step w e) f.ticket es

-- what a finish of scrape f of life n finds, after the events es that followed its start: no ticket after an earlier finish, its life's scrape where
-- none of them ended its flight, else a scrape that was cancelled
abbrev pub finish_found : World → ℕ → InFlight → List Event → TicketState
finish_found w n f es = if has_finish w f.ticket es then NotStarted else if stays w n f.ticket es then Counts n f.moment else Cancelled

-- a finish counts, is late or has no ticket by what stands between the start of its scrape and it
pub record FinishLaw (w : World) (e : Event) (n : ℕ) (f : InFlight) (es : List Event) : Type 0 where
  pub finds : found (run (step w e) es) f.ticket ≡ finish_found (step w e) n f es
  pub answered :
      (took : ℤ) (r : Reply) → (run (step w e) es).halted ≡ false →
      answer (run (step w e) es) (Finish f.ticket took r) ≡ finish_answer (run (step w e) es) took r (finish_found (step w e) n f es)

-- an event of the journal started a scrape with ticket k
pub record IsStarted (journal : List Event) (k : ℕ) : Type 0 where
  pub earlier : List Event
  pub event : Event
  pub later : List Event
  pub whole : journal ≡ earlier ++ event ∷ later
  pub life : ℕ
  pub flight : InFlight
  pub ticket : flight.ticket ≡ k
  pub starts : Starts (world_of earlier) event life flight

-- where no event of the journal started a scrape with a ticket, a finish has no ticket
abbrev pub UnstartedLaw : List Event → Type 0
UnstartedLaw journal = (k : ℕ) → (IsStarted journal k → ⊥) → found (world_of journal) k ≡ NotStarted
