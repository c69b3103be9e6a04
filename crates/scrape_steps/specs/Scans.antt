-- What ticks, sweeps and finishes find of the lives, life by life.
use Rattle.std.specs.Prelude.{◌≡◌, ◌<◌, ℕ, ℤ, Bool, false, List, slice_get, Option, Some, None}
use Rattle.report_samples.specs.declared.entries.Entry.{Entry}
use Rattle.jobs_in_force.specs.declared.jobs.InForce.{InForce}
use Rattle.scrape_machine.specs.declared.lives.Life.{Life}
use Rattle.scrape_machine.specs.declared.lives.TicketState.{TicketState}
use Rattle.scrape_machine.specs.declared.lives.TicketState.TheVariants.{NotStarted, Cancelled, Counts}
use Rattle.scrape_machine.specs.declared.answers.Answer.{Answer}
use Rattle.scrape_machine.specs.declared.answers.Answer.TheVariants.{Late, NoTicket}
use Rattle.scrape_machine.specs.Lives.{is_open, scan_entries}
use Rattle.scrape_machine.specs.Machine.{World, is_over}

-- life number n is open
abbrev pub is_open_life : Option Life → Bool
is_open_life None = false
is_open_life (Some l) = is_open l

abbrev pub is_open_at : World → ℕ → Bool
is_open_at w n = is_open_life (slice_get w.lives n)

-- the entries that a sweep at m gives of a life
abbrev pub swept_entries : List InForce → ℤ → Life → List Entry
swept_entries jobs m l = scan_entries m (is_over jobs l) l l.schedule.closed

-- what was found is among so many lives
abbrev pub IsWithin : ℕ → TicketState → Type 0
IsWithin count NotStarted = Unit {0}
IsWithin count Cancelled = Unit {0}
IsWithin count (Counts n m) = n < count

-- the answer to a finish that finds no life
abbrev pub IsMissed : Answer → TicketState → Type 0
IsMissed a NotStarted = a ≡ NoTicket
IsMissed a Cancelled = a ≡ Late
IsMissed a (Counts n m) = ⊥
