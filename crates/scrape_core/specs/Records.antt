-- What a journal records of started scrapes and of their finishes.
use Rattle.std.specs.Prelude.{◌≡◌, ◌<◌, ℕ, ℤ, Bool, true, false, List, [], ◌∷◌, ◌++◌, length, slice_get, count_by, Option, Some, None, if◌then◌else◌}
use Rattle.std.specs.List.{list_any}
use Rattle.journal_text.specs.Events.{IsJournal}
use Rattle.journal_text.specs.declared.events.Event.{Event}
use Rattle.journal_text.specs.declared.events.Event.TheVariants.{Load, Targets, Tick, Sweep, Finish, Halt}
use Rattle.scrape_laws.specs.Flights.{is_finish_of}
use Rattle.scrape_machine.specs.declared.answers.Answer.{Answer}
use Rattle.scrape_machine.specs.declared.answers.Answer.TheVariants.{Loaded, Updated, Refused, NoJob, NoFile, Started, Forced, NotDue, Busy, NoLife, Swept, Counted, Late, NoTicket, Halted}
use Rattle.scrape_machine.specs.declared.lives.StartedScrape.{StartedScrape}
use Rattle.scrape_machine.specs.Machine.{World, beginning, world_of, answer, step}

-- how many scrapes were started
unfoldable pub started_of : List Event → ℕ
started_of es = length (world_of es).started

-- the scrape with a ticket was started and had its finish, as a number
abbrev pub one_if : Option StartedScrape → ℕ
one_if None = 0
one_if (Some s) = if s.finished then 1 else 0

abbrev pub landed : ℕ → List StartedScrape → ℕ
landed k ss = one_if (slice_get ss k)

-- whether the scrape with ticket k had its finish, as a number
unfoldable pub landed_in : ℕ → List Event → ℕ
landed_in k es = landed k (world_of es).started

-- how many finishes of a ticket there are
abbrev pub finishes : ℕ → List Event → ℕ
finishes k es = count_by (is_finish_of k) es

abbrev pub is_finish : Event → Bool
is_finish (Load m text) = false
is_finish (Targets m name file text) = false
is_finish (Tick m k) = false
is_finish (Sweep m) = false
is_finish (Finish k took r) = true
is_finish (Halt m) = false

-- the answers to the events, from a world on
abbrev pub answers_from : World → List Event → List Answer
answers_from w [] = []
answers_from w (e ∷ es) = answer w e ∷ answers_from (step w e) es

abbrev pub is_no_ticket : Answer → Bool
is_no_ticket (Loaded closed begun) = false
is_no_ticket (Updated closed begun) = false
is_no_ticket (Refused fault) = false
is_no_ticket NoJob = false
is_no_ticket NoFile = false
is_no_ticket (Started ticket) = false
is_no_ticket Forced = false
is_no_ticket NotDue = false
is_no_ticket Busy = false
is_no_ticket NoLife = false
is_no_ticket (Swept first started forced ended) = false
is_no_ticket (Counted fault) = false
is_no_ticket Late = false
is_no_ticket NoTicket = true
is_no_ticket Halted = false

-- whether a finish was of a scrape that wasn't started, or that had had its finish
unfoldable pub has_lost : List Event → Bool
has_lost es = list_any is_no_ticket (answers_from beginning es)

-- no halt came
unfoldable pub is_live : List Event → Bool
is_live es = if (world_of es).halted then false else true

-- no scrape was started, and there was no finish and no halt
pub record IsFresh (es : List Event) : Type 0 where
  pub none : started_of es ≡ 0
  pub unfinished : list_any is_finish es ≡ false
  pub live : is_live es ≡ true

-- a text spells it, so moments never go back; every started scrape has exactly one finish, no finish was of another ticket, and the last event is
-- a halt, before which there was none
pub record IsWhole (es : List Event) : Type 0 where
  pub once : (k : ℕ) → k < started_of es → finishes k es ≡ 1
  pub found : has_lost es ≡ false
  pub journal : IsJournal es
  pub halts : (before : List Event) × (m : ℤ) × (es ≡ before ++ Halt m ∷ []) × (is_live before ≡ true)
