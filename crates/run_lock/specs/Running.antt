-- What lies under the lock of a run.
use Rattle.std.specs.Prelude.{◌≡◌, ℕ, ◌+◌, ◌++◌, Bool, true, List, length, drop, Option}
use Rattle.journal_text.specs.declared.events.Event.{Event}
use Rattle.scrape_machine.specs.Machine.{world_of}
use Rattle.run_lock.specs.declared.marks.Entry.{Entry}
use Rattle.run_lock.specs.declared.marks.Mark.{Mark}
use Rattle.run_lock.specs.Callers.{jobs_known}
use Rattle.run_lock.specs.Entries.{entries_of, brought_in, events_in, own_by, seats_in}
use Rattle.run_lock.specs.Held.{IsRunning, IsHeld, any_end, held}

-- what a run knows: its journal with the marks beside it, the least ready ticket and how many were started, the ticket that each worker has out
-- and how many these are, how many sweeps are left, and whether the end of all work was seen
pub record Known : Type 0 where
  pub events : List Event
  pub marks : List Mark
  pub next : ℕ
  pub started : ℕ
  pub slots : List (Option ℕ)
  pub out : ℕ
  pub sweeps_left : ℕ
  pub ended : Bool

abbrev pub marked_by : Known → List Mark → Known
marked_by k ms =
    record { events = k.events; marks = ms; next = k.next; started = k.started; slots = k.slots; out = k.out; sweeps_left = k.sweeps_left; ended = k.ended }

abbrev pub log_of : Known → List Entry
log_of k = entries_of k.events k.marks

-- a journal that begins with these events, as a fact that can be so in one way alone
abbrev pub IsFront : List Event → List Event → Type 0
IsFront start es = start ++ drop (length start) es ≡ es

-- the events of the caller's seat: those that came before the run, and what it brought
abbrev pub IsCallers : List Event → List Entry → Type 0
IsCallers start log = events_in (own_by 0 log) ≡ start ++ brought_in (own_by 0 log)

-- the journal of a run of so many workers, which is to make so many sweeps over the events that were there before
pub record IsRun (workers turns : ℕ) (start : List Event) (k : Known) : Type 0 where
  pub running : IsRunning k.events k.next k.started k.slots
  pub marked : length k.events ≡ length (seats_in k.marks)
  pub crew : length k.slots ≡ workers
  pub counted : k.out ≡ held k.slots
  pub tickets : IsHeld k.slots (log_of k)
  pub sweeps : k.sweeps_left + length (brought_in (own_by 1 (log_of k))) ≡ turns
  pub over : k.ended ≡ true → (k.next ≡ k.started) × (k.out ≡ 0) × (k.sweeps_left ≡ 0)
  pub shown : any_end (log_of k) ≡ true → k.ended ≡ true
  pub jobs : (world_of k.events).jobs ≡ jobs_known start (own_by 0 (log_of k))
  pub begins : IsFront start k.events
  pub callers : IsCallers start (log_of k)
