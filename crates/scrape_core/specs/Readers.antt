-- What a core says of its journal between events: what a sweep would do, from when on, and the request of a started scrape.
use Rattle.std.specs.Prelude.{ℕ, ℤ, ◌+◌, ◌≤◌, pos, Bool, false, not, ◌&&◌, ◌||◌, List, nat_lt, slice_get, Option, Some, None, if◌then◌else◌}
use Rattle.std.specs.List.{list_any}
use Rattle.journal_text.specs.declared.events.Event.{Event}
use Rattle.journal_text.specs.declared.events.Event.TheVariants.{Sweep}
use Rattle.journal_text.specs.Events.{now_of}
use Rattle.outside.specs.Fetches.{IsTimeout}
use Rattle.outside.specs.Sizes.{most_body_bytes}
use Rattle.outside.specs.declared.requests.Request.{Request}
use Rattle.scrape_config.specs.declared.conf.JobConf.{JobConf}
use Rattle.target_set.specs.Requests.{request_of}
use Rattle.life_roll.specs.Schedules as schedule
use Rattle.scrape_machine.specs.declared.answers.Answer.{Answer}
use Rattle.scrape_machine.specs.declared.answers.Answer.TheVariants.{Loaded, Updated, Refused, NoJob, NoFile, Started, Forced, NotDue, Busy, NoLife, Swept, Counted, Late, NoTicket, Halted}
use Rattle.scrape_machine.specs.declared.lives.Life.{Life}
use Rattle.scrape_machine.specs.declared.lives.StartedScrape.{StartedScrape}
use Rattle.scrape_core.specs.declared.state.State.{State}
use Rattle.scrape_core.specs.Wakes.{IsWakeBy}
use Rattle.scrape_machine.specs.Lives.{ends}
use Rattle.scrape_machine.specs.Machine.{world_of, answer}

-- the answer to a sweep that started or forced a scrape, or took an ending
abbrev pub did : Answer → Bool
did (Loaded closed begun) = false
did (Updated closed begun) = false
did (Refused fault) = false
did NoJob = false
did NoFile = false
did (Started ticket) = false
did Forced = false
did NotDue = false
did Busy = false
did NoLife = false
did (Swept first started forced ended) = nat_lt 0 (started + forced + ended)
did (Counted fault) = false
did Late = false
did NoTicket = false
did Halted = false

-- a sweep at m would start or force a scrape, or take an ending
unfoldable pub is_due : List Event → ℕ → Bool
is_due es m = did (answer (world_of es) (Sweep (pos m)))

-- the least moment from the last one on at which a sweep would, or none where none would
abbrev pub IsWake : List Event → Option ℤ → Type 0
IsWake es o = IsWakeBy (is_due es) (now_of es) o

-- a sweep at m would make a scrape of this life, or take its ending
abbrev pub acts : ℕ → Life → Bool
acts m l = schedule.is_due m l.schedule || ends m l

-- a sweep at m would do so for one of the lives, unless a halt came
abbrev pub due_in : State → ℕ → Bool
due_in s m = not s.halted && list_any (acts m) s.lives.items

-- the request of a scrape of a life, by the settings at its start; a life's target stays the same
abbrev pub life_request : JobConf → Option Life → Option Request
life_request conf None = None
life_request conf (Some l) = request_of conf l.identity

-- the request of a scrape that had no finish so far
abbrev pub start_request : List Life → Option StartedScrape → Option Request
start_request ls None = None
start_request ls (Some s) = if s.finished then None else life_request s.settings.conf (slice_get ls s.life)

-- a scrape was started, and had no finish so far
abbrev pub is_unfinished : Option StartedScrape → Bool
is_unfinished None = false
is_unfinished (Some s) = not s.finished

unfoldable pub awaits : List Event → ℕ → Bool
awaits es k = is_unfinished (slice_get (world_of es).started k)

-- a request that may be fetched: its limit and its timeout are in their ranges
pub record MayFetch (r : Request) : Type 0 where
  pub limit : r.limit ≤ most_body_bytes
  pub timeout : IsTimeout r.timeout

-- the request of the scrape with ticket k as it was at its start
unfoldable pub request : List Event → ℕ → Option Request
request es k = start_request (world_of es).lives (slice_get (world_of es).started k)
