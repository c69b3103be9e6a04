-- What a seat is to do and brings, and what its entries say then.
use Rattle.std.specs.Prelude.{◌≡◌, ℕ, ◌+◌, ℤ, pos, List, length, Some, max}
use Rattle.journal_text.specs.declared.events.Event.{Event}
use Rattle.journal_text.specs.declared.events.Event.TheVariants.{Load, Targets, Tick, Sweep, Finish, Halt}
use Rattle.journal_text.specs.Lines.{number, IsNameLength, IsTextLength}
use Rattle.outside.specs.declared.replies.Reply.{Reply}
use Rattle.outside.specs.declared.requests.Fetched.{Fetched}
use Rattle.scrape_core.specs.Readers.{MayFetch, request}
use Rattle.run_lock.specs.declared.marks.Entry.{Entry}
use Rattle.run_lock.specs.declared.marks.Note.{Note}
use Rattle.run_lock.specs.declared.marks.Note.TheVariants.{Took, Brought, Ended}
use Rattle.run_lock.specs.declared.tasks.ControlOrder.{ControlOrder}
use Rattle.run_lock.specs.declared.tasks.ControlOrder.TheVariants as order
use Rattle.run_lock.specs.declared.tasks.WorkerTask.{WorkerTask}
use Rattle.run_lock.specs.declared.tasks.WorkerTask.TheVariants.{Fetch, Wait, End, Fail}
use Rattle.run_lock.specs.Entries.{Adds}

-- the entries after a worker was given what to do
abbrev pub AfterTask : ℕ → WorkerTask → List Entry → List Entry → Type 0
AfterTask place (Fetch k r) log later = Adds log (2 + place) (Took k) later
AfterTask place Wait log later = later ≡ log
AfterTask place End log later = Adds log (2 + place) Ended later
AfterTask place Fail log later = Unit {0}

-- the request of a task is that of its ticket by this journal, and may be fetched
abbrev pub IsAsked : List Event → WorkerTask → Type 0
IsAsked es (Fetch k r) = (request es k ≡ Some r) × MayFetch r
IsAsked es Wait = Unit {0}
IsAsked es End = Unit {0}
IsAsked es Fail = Unit {0}

-- the finish of a ticket with what was fetched
abbrev pub finish_with : ℕ → Fetched → Event
finish_with k f = Finish k f.took f.reply

-- the moment of a sweep: the reading of the clock, or the last moment where that is later
abbrev pub sweep_moment : ℤ → ℕ → ℤ
sweep_moment reading now = pos (max (number reading) now)

-- what a seat brings, behind the last moment
abbrev pub sweep_brought : ℤ → ℕ → Note
sweep_brought reading now = Brought now (Sweep (sweep_moment reading now))

-- what the caller orders keeps the lengths of a journal
abbrev pub IsFit : ControlOrder → Type 0
IsFit (order.Load text) = IsTextLength (length text)
IsFit (order.Update job file text) = IsNameLength (length job) × IsNameLength (length file) × IsTextLength (length text)

-- its event, where the last moment is this one
abbrev pub event_at : ℕ → ControlOrder → Event
event_at now (order.Load text) = Load (pos now) text
event_at now (order.Update job file text) = Targets (pos now) job file text

abbrev pub order_brought : ControlOrder → ℕ → Note
order_brought o now = Brought now (event_at now o)

-- the caller's entries after one more order, behind the last moment
abbrev pub IsOrdered : ControlOrder → List Entry → List Entry → Type 0
IsOrdered o log later = (now : ℕ) × Adds log 0 (order_brought o now) later

-- an event of the caller: a load or an update
abbrev pub IsCommand : Event → Type 0
IsCommand (Load m text) = Unit {0}
IsCommand (Targets m job file text) = Unit {0}
IsCommand (Tick m k) = ⊥
IsCommand (Sweep m) = ⊥
IsCommand (Finish k took r) = ⊥
IsCommand (Halt m) = ⊥

-- a finish with this reply
abbrev pub IsFinishWith : Reply → Event → Type 0
IsFinishWith reply (Load m text) = ⊥
IsFinishWith reply (Targets m name file text) = ⊥
IsFinishWith reply (Tick m k) = ⊥
IsFinishWith reply (Sweep m) = ⊥
IsFinishWith reply (Finish k took r) = r ≡ reply
IsFinishWith reply (Halt m) = ⊥
