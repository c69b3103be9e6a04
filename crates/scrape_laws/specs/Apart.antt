-- The lives-apart law: what becomes of a life depends on nothing but the life and what the events are to it.
use Rattle.std.specs.Prelude.{◌≡◌, ℕ, true, List, [], ◌∷◌, ◌++◌, map, filter, slice_get, Option, Some, None, option_map}
use Rattle.journal_text.specs.declared.events.Event.{Event}
use Rattle.report_samples.specs.declared.entries.Entry.{Entry}
use Rattle.scrape_loop.specs.Texts.{no_texts}
use Rattle.life_roll.specs.declared.schedule.InFlight.{InFlight}
use Rattle.scrape_machine.specs.declared.lives.Life.{Life}
use Rattle.scrape_machine.specs.declared.lives.Local.{Local}
use Rattle.scrape_machine.specs.declared.lives.Local.TheVariants.{Nothing, Scan, Answered, Change, Close}
use Rattle.scrape_machine.specs.Machine.{World, local, step, gives, run, book_from, world_of, book_of}
use Rattle.scrape_laws.specs.Undisturbed.{is_nothing, is_entry_of}

-- the scrape in flight without its ticket
abbrev pub without_ticket : Option InFlight → Option InFlight
without_ticket None = None
without_ticket (Some f) = Some (record f { ticket = 0 })

-- a life without its number, what it knows of raw texts, and the ticket of its scrape in flight
abbrev pub bare : Life → Life
bare l = record l { state = record l.state { life = 0; cache = no_texts }; schedule = record l.schedule { flight = without_ticket l.schedule.flight } }

-- what an event is to a life, without the ticket
abbrev pub bare_local : Local → Local
bare_local Nothing = Nothing
bare_local (Scan m k over) = Scan m 0 over
bare_local (Answered took r) = Answered took r
bare_local (Change m s) = Change m s
bare_local (Close m) = Close m

-- the entry as one of life n
abbrev pub renumbered : ℕ → Entry → Entry
renumbered n e = record e { life = n }

-- an event of one world and one of another go alike for a life of each: the lives after them are equal but for number and ticket,
-- and the entries given of them are equal but for the number
pub record GoAlike (one other : World × ℕ) (e f : Event) : Type 0 where
  pub lives : option_map bare (slice_get (step one.0 e).lives one.1) ≡ option_map bare (slice_get (step other.0 f).lives other.1)
  pub entries :
      map (renumbered other.1) (filter (is_entry_of one.1) (gives one.0 e)) ≡ filter (is_entry_of other.1) (gives other.0 f)

-- where two lives are equal but for number and ticket, and an event is the same to both but for the ticket, it goes alike for them
unfoldable pub ApartLaw : List Event → Event → Type 0
ApartLaw journal e = (other : List Event) (f : Event) (n k : ℕ) (l p : Life) →
    slice_get (world_of journal).lives n ≡ Some l → slice_get (world_of other).lives k ≡ Some p → bare l ≡ bare p →
    bare_local (local (world_of journal) e n l) ≡ bare_local (local (world_of other) f k p) → GoAlike (world_of journal, n) (world_of other, k) e f

-- what an event is to a life, unless that is nothing
abbrev pub unless_nothing : Local → List Local
unless_nothing Nothing = []
unless_nothing (Scan m k over) = Scan m k over ∷ []
unless_nothing (Answered took r) = Answered took r ∷ []
unless_nothing (Change m s) = Change m s ∷ []
unless_nothing (Close m) = Close m ∷ []

-- what life n meets in an event, if it has begun
abbrev pub met_at : World → Event → ℕ → Option Life → List Local
met_at w e n None = []
met_at w e n (Some l) = unless_nothing (bare_local (local w e n l))

-- what life n meets in these events, one after the other: scans with the state of its job's target limit, replies, changes and its closing, without tickets
abbrev pub met : World → ℕ → List Event → List Local
met w n [] = []
met w n (e ∷ es) = met_at w e n (slice_get w.lives n) ++ met (step w e) n es

-- the first life, if there is one, or else the other
abbrev pub first_of : Option Life → Option Life → Option Life
first_of None o = o
first_of (Some l) o = Some l

-- life n as these events find it, or as it begins in them
abbrev pub first : World → ℕ → List Event → Option Life
first w n [] = slice_get w.lives n
first w n (e ∷ es) = first_of (slice_get w.lives n) (first (step w e) n es)

-- some events of one world and some of another go alike for a life of each: the lives at the end and all entries given of them are equal in the same sense
pub record RunAlike (one other : World × ℕ) (es fs : List Event) : Type 0 where
  pub lives : option_map bare (slice_get (run one.0 es).lives one.1) ≡ option_map bare (slice_get (run other.0 fs).lives other.1)
  pub entries :
      map (renumbered other.1) (filter (is_entry_of one.1) (book_from one.0 es)) ≡ filter (is_entry_of other.1) (book_from other.0 fs)

-- where two lives are equal at first but for number and ticket, and meet the same, all goes alike for them
unfoldable pub ApartRunsLaw : List Event → List Event → Type 0
ApartRunsLaw journal other = (es fs : List Event) (n k : ℕ) →
    option_map bare (first (world_of journal) n es) ≡ option_map bare (first (world_of other) k fs) →
    met (world_of journal) n es ≡ met (world_of other) k fs → RunAlike (world_of journal, n) (world_of other, k) es fs

-- where a reload after a journal, or any other event, is nothing to a life, the life's entries in the book are those without it, given that later on it meets
-- the same scans and replies, and the same state of its job's target limit
unfoldable pub ReloadLaw : List Event → Event → Type 0
ReloadLaw journal e = (n : ℕ) (l : Life) (es fs : List Event) → slice_get (world_of journal).lives n ≡ Some l →
    is_nothing (world_of journal) e n l ≡ true →
    met (world_of (journal ++ e ∷ [])) n es ≡ met (world_of journal) n fs →
    filter (is_entry_of n) (book_of (journal ++ e ∷ es)) ≡ filter (is_entry_of n) (book_of (journal ++ fs))
