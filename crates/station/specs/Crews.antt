-- What the workers and the ticker of a run did, by the calls of their fetchers and the readings of the clock.
use Rattle.std.specs.Prelude.{◌≡◌, ◌≤◌, ℕ, ◌+◌, ◌==◌, ℤ, pos, true, List, [], ◌∷◌, ◌++◌, length, map, Option, Some, IfSome, if◌then◌else◌}
use Rattle.journal_text.specs.declared.events.Event.{Event}
use Rattle.journal_text.specs.declared.events.Event.TheVariants.{Sweep, Halt}
use Rattle.journal_text.specs.Events.{now_after}
use Rattle.outside.specs.declared.calls.Call.{Call}
use Rattle.outside.specs.declared.requests.Request.{Request}
use Rattle.outside.specs.Clocks.{ClockSeen, next_reading, later_readings}
use Rattle.outside.specs.Fetches.{FetchSeen}
use Rattle.run_lock.specs.declared.marks.Entry.{Entry}
use Rattle.run_lock.specs.declared.marks.Note.{Note}
use Rattle.run_lock.specs.declared.marks.Note.TheVariants.{Before, Took, Brought, Ended, Failed}
use Rattle.run_lock.specs.Callers.{BeginsWith}
use Rattle.run_lock.specs.Entries.{entry, events_in}
use Rattle.run_lock.specs.Held.{any_end, events_of}
use Rattle.run_lock.specs.Tasks.{finish_with, sweep_brought, sweep_moment}
use Rattle.scrape_core.specs.Readers.{request}
use Rattle.turn_lock.specs.Passes.{own_of, seen_by}
use Rattle.turn_lock.specs.declared.lock.Pass.{Pass}

-- an answered call of a fetcher, the ticket that it was for, and the last moment before its finish
pub record Answered : Type 0 where
  pub ticket : ℕ
  pub call : Call
  pub last : ℕ

abbrev pub answered : ℕ → Call → ℕ → Answered
answered k c now = record { ticket = k; call = c; last = now }

-- its finish
abbrev pub finish_of : Answered → Event
finish_of a = finish_with a.ticket a.call.fetched

-- the entries of a worker: each ticket is taken, and then its finish is brought
abbrev pub entries_for : ℕ → List Answered → List Entry
entries_for place [] = []
entries_for place (a ∷ more) = entry (2 + place) (Took a.ticket) ∷ entry (2 + place) (Brought a.last (finish_of a)) ∷ entries_for place more

-- where the calls of a fetcher were known, these further ones are known now; its count didn't fall
pub record Called (more : List Answered) (earlier later : FetchSeen) : Type 0 where
  pub calls : IfSome earlier.calls (λ had. later.calls ≡ Some (had ++ map (λ (a : Answered). a.call) more))
  pub counts : earlier.faults ≤ later.faults

-- a ticket's request, as a front of these events has it
abbrev pub IsRequestIn : List Event → ℕ → Request → Type 0
IsRequestIn es k r = (before rest : List Event) × (es ≡ before ++ rest) × (request before k ≡ Some r)

-- each call was made with the request of its ticket
abbrev pub AreAsked : List Event → List Answered → Type 0
AreAsked es [] = Unit {0}
AreAsked es (a ∷ more) = IsRequestIn es a.ticket a.call.request × AreAsked es more

-- the fetcher was called further, with the requests of its tickets, and the worker's entries are of just these calls
pub record HasWorked {T : Type 0} (place : ℕ) (earlier later : FetchSeen) (pass : Pass T Entry) : Type 0 where
  pub more : List Answered
  pub called : Called more earlier later
  pub asked : AreAsked (events_in (seen_by pass)) more
  pub own : own_of pass ≡ entries_for place more

-- the same of a worker that saw the end of all work
pub record HasFinished {T : Type 0} (place : ℕ) (earlier later : FetchSeen) (pass : Pass T Entry) : Type 0 where
  pub more : List Answered
  pub called : Called more earlier later
  pub asked : AreAsked (events_in (seen_by pass)) more
  pub own : own_of pass ≡ entries_for place more ++ entry (2 + place) Ended ∷ []

-- a sweep of the ticker: the reading of the clock, and the last moment before it
pub record Swept : Type 0 where
  pub reading : ℤ
  pub last : ℕ

abbrev pub sweeps_for : List Swept → List Entry
sweeps_for [] = []
sweeps_for (s ∷ more) = entry 1 (sweep_brought s.reading s.last) ∷ sweeps_for more

-- the clock gave the readings of these sweeps, one after another, where it is known what it gives
abbrev pub GaveReadings : List Swept → List ℤ → Option (List ℤ) → Type 0
GaveReadings [] readings after = after ≡ Some readings
GaveReadings (s ∷ more) readings after = (s.reading ≡ next_reading readings) × GaveReadings more (later_readings readings) after

-- the ticker's entries after so many sweeps, each at a reading of the clock
pub record HasTicked (turns : ℕ) (earlier later : ClockSeen) (own : List Entry) : Type 0 where
  pub sweeps : List Swept
  pub many : length sweeps ≡ turns
  pub gave : IfSome earlier.readings (λ readings. GaveReadings sweeps readings later.readings)
  pub own_is : own ≡ sweeps_for sweeps

-- the same as `HasFinished` of some workers, the first of which has this place
abbrev pub AllFinished : {T : Type 0} → ℕ → List FetchSeen → List FetchSeen → List (Pass T Entry) → Type 0
AllFinished n [] [] [] = Unit {0}
AllFinished n (x ∷ xs) (y ∷ ys) (p ∷ ps) = HasFinished n x y p × AllFinished (n + 1) xs ys ps
AllFinished n _ _ _ = ⊥

-- the events of worker number `place` are the finishes with what its fetcher brought in this run, in their order, each for a call with the request
-- of its ticket
pub record RecordsCalls (place : ℕ) (es : List Event) (seats : List ℕ) (earlier later : FetchSeen) : Type 0 where
  pub more : List Answered
  pub called : Called more earlier later
  pub asked : AreAsked es more
  pub events : events_of (2 + place) es seats ≡ map finish_of more

abbrev pub AllRecorded : ℕ → List Event → List ℕ → List FetchSeen → List FetchSeen → Type 0
AllRecorded n es seats [] [] = Unit {0}
AllRecorded n es seats (x ∷ xs) (y ∷ ys) = RecordsCalls n es seats x y × AllRecorded (n + 1) es seats xs ys
AllRecorded n es seats _ _ = ⊥

-- the events of a seat, each with the last moment before it
pub record Behind : Type 0 where
  pub last : ℕ
  pub event : Event

abbrev pub behind_of : ℕ → ℕ → List Event → List ℕ → List Behind
behind_of q now [] ss = []
behind_of q now (e ∷ es) [] = []
behind_of q now (e ∷ es) (s ∷ ss) =
    let more = behind_of q (now_after now e) es ss in
    if s == q then record { last = now; event = e } ∷ more else more

-- the same of what entries say was brought
abbrev pub behind_in : Note → List Behind
behind_in (Before e) = []
behind_in (Took k) = []
behind_in (Brought now e) = record { last = now; event = e } ∷ []
behind_in Ended = []
behind_in Failed = []

abbrev pub behinds_in : List Entry → List Behind
behinds_in [] = []
behinds_in (x ∷ xs) = behind_in x.note ++ behinds_in xs

abbrev pub sweep_of : Swept → Behind
sweep_of s = record { last = s.last; event = Sweep (sweep_moment s.reading s.last) }

-- the ticker brought just so many sweeps, each at the greater of the clock's next reading and the moment before
pub record RecordsSweeps (turns : ℕ) (es : List Event) (seats : List ℕ) (earlier later : ClockSeen) : Type 0 where
  pub sweeps : List Swept
  pub many : length sweeps ≡ turns
  pub gave : IfSome earlier.readings (λ readings. GaveReadings sweeps readings later.readings)
  pub events : behind_of 1 0 es seats ≡ map sweep_of sweeps

-- the events of a seat are those of its entries, those that it brought behind these last moments
abbrev pub BehindNote : Note → List Behind → (List Behind → Type 0) → Type 0
BehindNote (Before e) [] rest = ⊥
BehindNote (Before e) (b ∷ bs) rest = (b.event ≡ e) × rest bs
BehindNote (Took k) bs rest = rest bs
BehindNote (Brought now e) [] rest = ⊥
BehindNote (Brought now e) (b ∷ bs) rest = (b ≡ record { last = now; event = e }) × rest bs
BehindNote Ended bs rest = rest bs
BehindNote Failed bs rest = rest bs

abbrev pub IsBehind : List Entry → List Behind → Type 0
IsBehind [] bs = bs ≡ []
IsBehind (x ∷ xs) bs = BehindNote x.note bs (IsBehind xs)

-- the caller's events are those of its entries, and then the halt at the last moment
pub record IsByCaller (es : List Event) (seats : List ℕ) (own : List Entry) : Type 0 where
  pub halted : ℕ
  pub events : events_of 0 es seats ≡ events_in own ++ Halt (pos halted) ∷ []
  pub behind : IsBehind (own ++ entry 0 (Brought halted (Halt (pos halted))) ∷ []) (behind_of 0 0 es seats)

-- the first of some passes shows the end of all work
abbrev pub FirstEnded : {T : Type 0} → List (Pass T Entry) → Type 0
FirstEnded [] = ⊥
FirstEnded (p ∷ ps) = any_end (own_of p) ≡ true

-- a closed journal begins with the events that the pass of seat n had seen, and the events of that seat are those among the pass's own entries
pub record HasOwn {T : Type 0} (es : List Event) (seats : List ℕ) (n : ℕ) (pass : Pass T Entry) : Type 0 where
  pub seen : BeginsWith (events_in (seen_by pass)) es
  pub events : events_of n es seats ≡ events_in (own_of pass)

abbrev pub AllHaveOwn : {T : Type 0} → List Event → List ℕ → ℕ → List (Pass T Entry) → Type 0
AllHaveOwn es seats n [] = Unit {0}
AllHaveOwn es seats n (p ∷ ps) = HasOwn es seats n p × AllHaveOwn es seats (n + 1) ps
