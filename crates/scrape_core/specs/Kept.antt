-- What a core keeps beside its journal.
use Rattle.std.specs.Prelude.{◌≡◌, ℕ, ℤ, ◌<◌, ◌≤◌, ◌^◌, ◌++◌, false, All, List, length}
use Rattle.journal_text.specs.declared.events.Event.{Event}
use Rattle.journal_text.specs.declared.events.Event.TheVariants.{Finish, Targets}
use Rattle.journal_text.specs.Events.{JournalView}
use Rattle.report_samples.specs.declared.entries.Entry.{Entry}
use Rattle.scrape_machine.specs.Lives.{is_open, IsRightLife}
use Rattle.scrape_machine.specs.Machine.{World, world, world_of, book_of, gives}
use Rattle.scrape_machine.specs.Runs.{runs_of}
use Rattle.scrape_steps.specs.Concerned.{places_where}
use Rattle.scrape_steps.specs.Endings.{endings_from, waiting, HoldSame}
use Rattle.scrape_core.specs.declared.changes.TargetsFile.{TargetsFile}
use Rattle.scrape_core.specs.declared.finishes.FinishedFetch.{FinishedFetch}
use Rattle.scrape_core.specs.declared.state.State.{State}

-- the world that a state is
abbrev pub seen : State → World
seen s = record { jobs = s.jobs.items; lives = s.lives.items; started = s.started.items; halted = s.halted }

-- the same, where no halt came
abbrev pub live : State → World
live s = world s.jobs.items s.lives.items s.started.items

-- lives are counted in 32 bits
abbrev pub HasFew : State → Type 0
HasFew s = length s.lives.items < 2 ^ 32

-- the open lives are listed, and the endings that wait are kept
abbrev pub IsListed : State → Type 0
IsListed s = (s.open_lives.items ≡ places_where is_open 0 s.lives.items) × HoldSame (endings_from 0 s.lives.items) (waiting s.endings)

-- of each life what is known of the raw texts of its rows is right
abbrev pub AreRightLives : State → Type 0
AreRightLives s = All IsRightLife s.lives.items

-- the state, the book and the number of runs are those of the journal
pub record IsKept (es : List Event) (book : List Entry) (s : State) (runs : ℕ) : Type 0 where
  pub state : seen s ≡ world_of es
  pub book_is : book ≡ book_of es
  pub few : HasFew s
  pub listed : IsListed s
  pub runs_are : runs ≡ runs_of es

-- the event of a finished fetch, and of a file's targets at a moment
abbrev pub finish_event : FinishedFetch → Event
finish_event f = Finish f.ticket f.took f.reply.now

abbrev pub update_event : ℤ → TargetsFile → Event
update_event moment u = Targets moment u.job.now u.file.now u.text.now

-- the entries of an event were appended
abbrev pub Appends : World → Event → List Entry → List Entry → Type 0
Appends w e before after = after ≡ before ++ gives w e

-- until a halt came the journal has room for one
abbrev pub HasRoom : State → JournalView → Type 0
HasRoom s j = s.halted ≡ false → 1 ≤ j.spare
