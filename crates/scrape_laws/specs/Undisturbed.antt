-- The undisturbed law: which events are nothing to a life, and that such an event leaves it as it is ("Configuration" of the Prometheus documentation:
-- a reload; that it leaves the lives of unchanged targets as they are is a rule of this project).
use Rattle.std.specs.Prelude.{◌≡◌, ℕ, Bool, true, false, not, ◌&&◌, ◌||◌, List, [], filter, slice_get, ◌==◌, Option, Some, None}
use Rattle.scrape_config.specs.Settings.{is_same}
use Rattle.journal_text.specs.declared.events.Event.{Event}
use Rattle.journal_text.specs.declared.events.Event.TheVariants.{Load, Targets, Tick, Sweep, Finish, Halt}
use Rattle.journal_text.specs.Lines.{number}
use Rattle.report_samples.specs.declared.entries.Entry.{Entry}
use Rattle.life_roll.specs.Flights.{is_flight}
use Rattle.life_roll.specs.Schedules.{is_due}
use Rattle.jobs_in_force.specs.declared.jobs.InForce.{InForce}
use Rattle.jobs_in_force.specs.Jobs.{job_named, has_target}
use Rattle.scrape_machine.specs.declared.lives.Life.{Life}
use Rattle.scrape_machine.specs.declared.lives.StartedScrape.{StartedScrape}
use Rattle.scrape_machine.specs.declared.lives.Local.TheVariants.{Nothing}
use Rattle.scrape_machine.specs.declared.answers.Answer.{Answer}
use Rattle.scrape_machine.specs.declared.answers.Answer.TheVariants.{Loaded, Updated, Refused, NoJob, NoFile, Started, Forced, NotDue, Busy, NoLife, Swept, Counted, Late, NoTicket, Halted}
use Rattle.scrape_machine.specs.Lives.{is_open, ends}
use Rattle.scrape_machine.specs.Machine.{World, new_jobs, job_name, local, step, gives, answer, world_of}

-- a job is configured before and after, with the same settings
abbrev pub has_same_settings : Option InForce → Option InForce → Bool
has_same_settings None after = false
has_same_settings (Some before) None = false
has_same_settings (Some before) (Some after) = is_same before.job.conf after.job.conf

-- a job is configured, and the life's target is among its kept ones
abbrev pub keeps_target : Life → Option InForce → Bool
keeps_target l None = false
keeps_target l (Some after) = has_target l.identity after

-- a new configuration leaves a life open with the same settings: its job keeps its target, and has the same settings before and after
abbrev pub leaves_open : List InForce → List InForce → Life → Bool
leaves_open jobs news l = keeps_target l (job_named (job_name l) news) && has_same_settings (job_named (job_name l) jobs) (job_named (job_name l) news)

-- a load or an update is nothing to a life: it is refused, or the life is closed, or it leaves the life open with the same settings
abbrev pub spares : List InForce → Option (List InForce) → Life → Bool
spares jobs None l = true
spares jobs (Some news) l = not (is_open l) || leaves_open jobs news l

-- a scrape was started of life n, and hasn't had its finish
abbrev pub is_awaited_of : ℕ → Option StartedScrape → Bool
is_awaited_of n None = false
is_awaited_of n (Some s) = (s.life == n) && not s.finished

-- ticket k is that of the scrape that life n has in flight: not another life's, not that of a cancelled scrape, not unknown and not finished
abbrev pub is_own_ticket : World → ℕ → ℕ → Life → Bool
is_own_ticket w k n l = is_awaited_of n (slice_get w.started k) && is_flight k l.schedule.flight

-- a live event is nothing to life n: a load or an update that spares it, a tick of another life or of it while it isn't open,
-- a finish whose ticket isn't that of its scrape in flight, or a halt; a sweep is a scan of each life
abbrev pub live_is_nothing : World → Event → ℕ → Life → Bool
live_is_nothing w (Load m text) n l = spares w.jobs (new_jobs w.jobs (Load m text)) l
live_is_nothing w (Targets m name file text) n l = spares w.jobs (new_jobs w.jobs (Targets m name file text)) l
live_is_nothing w (Tick m k) n l = not (k == n) || not (is_open l)
live_is_nothing w (Sweep m) n l = false
live_is_nothing w (Finish k took r) n l = not (is_own_ticket w k n l)
live_is_nothing w (Halt m) n l = true

-- an event is nothing to life n; after a halt each is
abbrev pub is_nothing : World → Event → ℕ → Life → Bool
is_nothing w e n l = w.halted || live_is_nothing w e n l

-- the list of these events agrees with what the event is to the life
pub record Agree (w : World) (e : Event) (n : ℕ) (l : Life) : Type 0 where
  pub listed : is_nothing w e n l ≡ true → local w e n l ≡ Nothing
  pub complete : local w e n l ≡ Nothing → is_nothing w e n l ≡ true

-- it does so for each life of a world
unfoldable pub NothingLaw : World → Event → Type 0
NothingLaw w e = (n : ℕ) (l : Life) → slice_get w.lives n ≡ Some l → Agree w e n l

-- in a journal a ticket is a life's own just where its scrape in flight has it
unfoldable pub TicketLaw : List Event → Type 0
TicketLaw journal =
    (k n : ℕ) (l : Life) → slice_get (world_of journal).lives n ≡ Some l → is_own_ticket (world_of journal) k n l ≡ is_flight k l.schedule.flight

-- an entry is of life n
abbrev pub is_entry_of : ℕ → Entry → Bool
is_entry_of n e = e.life == n

-- the life after the event is as before, and no entry that the event gives is of it
pub record IsUndisturbed (w : World) (e : Event) (n : ℕ) (l : Life) : Type 0 where
  pub life : slice_get (step w e).lives n ≡ Some l
  pub entries : filter (is_entry_of n) (gives w e) ≡ []

-- an event that is nothing to a life leaves it undisturbed
unfoldable pub UndisturbedLaw : List Event → Event → Type 0
UndisturbedLaw journal e = (n : ℕ) (l : Life) → slice_get (world_of journal).lives n ≡ Some l →
    is_nothing (world_of journal) e n l ≡ true → IsUndisturbed (world_of journal) e n l

-- a sweep or a tick at whose moment the life isn't due for a scrape, and a sweep that doesn't take its ending either
abbrev pub is_idle_scan : Event → Life → Bool
is_idle_scan (Load m text) l = false
is_idle_scan (Targets m name file text) l = false
is_idle_scan (Tick m k) l = not (is_due (number m) l.schedule)
is_idle_scan (Sweep m) l = not (is_due (number m) l.schedule) && not (ends (number m) l)
is_idle_scan (Finish k took r) l = false
is_idle_scan (Halt m) l = false

-- a scan at which a life is neither due nor ends leaves it undisturbed
unfoldable pub IdleLaw : List Event → Event → Type 0
IdleLaw journal e = (n : ℕ) (l : Life) → slice_get (world_of journal).lives n ≡ Some l →
    is_idle_scan e l ≡ true → IsUndisturbed (world_of journal) e n l

-- the answer to an event that was refused, was late or came after a halt; a halt has the last of these too
abbrev pub is_refusal : Answer → Bool
is_refusal (Loaded closed begun) = false
is_refusal (Updated closed begun) = false
is_refusal (Refused fault) = true
is_refusal NoJob = true
is_refusal NoFile = true
is_refusal (Started k) = false
is_refusal Forced = false
is_refusal NotDue = true
is_refusal Busy = true
is_refusal NoLife = true
is_refusal (Swept first started forced ended) = false
is_refusal (Counted fault) = false
is_refusal Late = true
is_refusal NoTicket = true
is_refusal Halted = true

-- an event with such an answer leaves each life undisturbed
unfoldable pub RefusedLaw : List Event → Event → Type 0
RefusedLaw journal e = (n : ℕ) (l : Life) → slice_get (world_of journal).lives n ≡ Some l →
    is_refusal (answer (world_of journal) e) ≡ true → IsUndisturbed (world_of journal) e n l
