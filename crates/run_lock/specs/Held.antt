-- Which tickets are out, and what the entries of a run say of that.
use Rattle.std.specs.Prelude.{◌≡◌, ℕ, ◌+◌, ◌<◌, ◌≤◌, ◌==◌, Bool, true, false, if◌then◌else◌, List, [], ◌∷◌, length, slice_get, count_by, Option, Some, None, nat_lt}
use Rattle.journal_text.specs.declared.events.Event.{Event}
use Rattle.scrape_core.specs.Records.{is_live, started_of, landed_in, finishes, has_lost}
use Rattle.run_lock.specs.declared.marks.Entry.{Entry}
use Rattle.run_lock.specs.declared.marks.Note.{Note}
use Rattle.run_lock.specs.declared.marks.Note.TheVariants.{Before, Took, Brought, Ended, Failed}
use Rattle.run_lock.specs.Entries.{own_by}

-- how many workers have a ticket out, and how many have any
abbrev pub has_ticket : ℕ → Option ℕ → Bool
has_ticket k (Some x) = x == k
has_ticket k None = false

abbrev pub has_any : Option ℕ → Bool
has_any (Some x) = true
has_any None = false

abbrev pub times : ℕ → List (Option ℕ) → ℕ
times k slots = count_by (has_ticket k) slots

abbrev pub held : List (Option ℕ) → ℕ
held slots = count_by has_any slots

-- each ticket below the next one to take is out, or has had its finish, and is just one of these; no other one is either
abbrev pub IsSettled : ℕ → List (Option ℕ) → List Event → Type 0
IsSettled next out es = (k : ℕ) → times k out + landed_in k es ≡ (if nat_lt k next then 1 else 0)

-- the journal of a run that goes on: next is the least ready ticket, and the tickets from it on, below the number that was started, are ready
pub record IsRunning (es : List Event) (next started : ℕ) (out : List (Option ℕ)) : Type 0 where
  pub live : is_live es ≡ true
  pub started_is : started ≡ started_of es
  pub order : next ≤ started
  pub settled : IsSettled next out es
  pub counted : (k : ℕ) → finishes k es ≡ landed_in k es
  pub found : has_lost es ≡ false

-- the ticket that a worker has out, by its entries
abbrev pub after_note : Option ℕ → Note → Option ℕ
after_note o (Before e) = o
after_note o (Took k) = Some k
after_note o (Brought now e) = None
after_note o Ended = o
after_note o Failed = o

abbrev pub pending_from : Option ℕ → List Entry → Option ℕ
pending_from o [] = o
pending_from o (x ∷ xs) = pending_from (after_note o x.note) xs

abbrev pub pending : List Entry → Option ℕ
pending xs = pending_from None xs

-- the slot of each worker has the ticket that it has out; worker i has seat 2 + i
abbrev pub IsHeld : List (Option ℕ) → List Entry → Type 0
IsHeld slots log = (i : ℕ) → i < length slots → slice_get slots i ≡ Some (pending (own_by (2 + i) log))

-- the events that one seat brought
abbrev pub events_of : ℕ → List Event → List ℕ → List Event
events_of q [] ss = []
events_of q (e ∷ es) [] = []
events_of q (e ∷ es) (s ∷ ss) = if s == q then e ∷ events_of q es ss else events_of q es ss

-- an entry of the end of all work, and whether one is among these
abbrev pub is_end : Note → Bool
is_end (Before e) = false
is_end (Took k) = false
is_end (Brought now e) = false
is_end Ended = true
is_end Failed = false

abbrev pub any_end : List Entry → Bool
any_end [] = false
any_end (x ∷ xs) = if is_end x.note then true else any_end xs
