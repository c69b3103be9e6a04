-- The entries that a journal and the marks beside it stand for.
use Rattle.std.specs.Prelude.{◌≡◌, ℕ, List, [], ◌∷◌, ◌++◌, All}
use Rattle.journal_text.specs.declared.events.Event.{Event}
use Rattle.journal_text.specs.Events.{now_after}
use Rattle.turn_lock.specs.Turns.{own}
use Rattle.run_lock.specs.declared.marks.Entry.{Entry}
use Rattle.run_lock.specs.declared.marks.Mark.{Mark}
use Rattle.run_lock.specs.declared.marks.Mark.TheVariants as mark
use Rattle.run_lock.specs.declared.marks.Note.{Note}
use Rattle.run_lock.specs.declared.marks.Note.TheVariants.{Before, Took, Brought, Ended, Failed}

abbrev pub entry : ℕ → Note → Entry
entry s x = record { seat = s; note = x }

-- the seat of each event, in their order
abbrev pub seats_in : List Mark → List ℕ
seats_in [] = []
seats_in (mark.Before ∷ ms) = 0 ∷ seats_in ms
seats_in (mark.Took s k ∷ ms) = seats_in ms
seats_in (mark.Brought s ∷ ms) = s ∷ seats_in ms
seats_in (mark.Ended s ∷ ms) = seats_in ms
seats_in (mark.Failed s ∷ ms) = seats_in ms

-- the entries, where `now` is the last moment before them
abbrev pub entries_from : ℕ → List Mark → List Event → List Entry
entries_from now [] es = []
entries_from now (mark.Before ∷ ms) [] = []
entries_from now (mark.Before ∷ ms) (e ∷ es) = entry 0 (Before e) ∷ entries_from (now_after now e) ms es
entries_from now (mark.Took s k ∷ ms) es = entry s (Took k) ∷ entries_from now ms es
entries_from now (mark.Brought s ∷ ms) [] = []
entries_from now (mark.Brought s ∷ ms) (e ∷ es) = entry s (Brought now e) ∷ entries_from (now_after now e) ms es
entries_from now (mark.Ended s ∷ ms) es = entry s Ended ∷ entries_from now ms es
entries_from now (mark.Failed s ∷ ms) es = entry s Failed ∷ entries_from now ms es

abbrev pub entries_of : List Event → List Mark → List Entry
entries_of es ms = entries_from 0 ms es

-- the entries of one seat
abbrev pub own_by : ℕ → List Entry → List Entry
own_by s log = own (λ (e : Entry). e.seat) s log

-- the events among entries, and those that were brought in the run
abbrev pub event_in : Note → List Event
event_in (Before e) = e ∷ []
event_in (Took k) = []
event_in (Brought now e) = e ∷ []
event_in Ended = []
event_in Failed = []

abbrev pub events_in : List Entry → List Event
events_in [] = []
events_in (x ∷ xs) = event_in x.note ++ events_in xs

abbrev pub brought_by : Note → List Event
brought_by (Before e) = []
brought_by (Took k) = []
brought_by (Brought now e) = e ∷ []
brought_by Ended = []
brought_by Failed = []

abbrev pub brought_in : List Entry → List Event
brought_in [] = []
brought_in (x ∷ xs) = brought_by x.note ++ brought_in xs

-- the events that were there before the run, as entries
abbrev pub begun_with : List Event → List Entry
begun_with [] = []
begun_with (e ∷ es) = entry 0 (Before e) ∷ begun_with es

-- the list goes on by entries of this seat alone
abbrev pub GoesOn : ℕ → List Entry → List Entry → Type 0
GoesOn s log later = (more : List Entry) × (later ≡ log ++ more) × All (λ (e : Entry). e.seat ≡ s) more

-- it goes on by just this entry
abbrev pub Adds : List Entry → ℕ → Note → List Entry → Type 0
Adds log s x later = later ≡ log ++ entry s x ∷ []
