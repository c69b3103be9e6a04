-- How a run from the command line ends, and what it leaves of each outside object ("Storage" of the Prometheus documentation: what was scraped
-- outlives the process; "Configuration": a configuration that is refused starts nothing).
use Rattle.std.specs.Prelude.{◌≡◌, ◌≤◌, ◌<◌, ◌⊎◌, ⊤, ℕ, ℤ, ◌+◌, Bool, List, [], ◌∷◌, length, All, IfSome, Ok, Err}
use Rattle.config_fields.specs.declared.fault.ConfFault.{ConfFault}
use Rattle.jobs_in_force.specs.Jobs.{loaded}
use Rattle.jobs_in_force.specs.declared.jobs.Filed.{Filed}
use Rattle.journal_text.specs.declared.events.Event.{Event}
use Rattle.journal_text.specs.declared.events.Event.TheVariants.{Load}
use Rattle.journal_text.specs.Events.{journal_text}
use Rattle.journal_text.specs.declared.versions.Version.TheVariants.{Two}
use Rattle.outside.specs.Clocks.{ClockSeen, Reads}
use Rattle.outside.specs.Fetches.{FetchSeen}
use Rattle.outside.specs.Objects.{ShelfSeen, SinkSeen, Use, Cut, FailedToRead, HasFile, HasLongerFile, IsUntouched, LacksFile, MetLonger, Missed, Rose, Took}
use Rattle.outside.specs.Sizes.{most_text_bytes}
use Rattle.outside.specs.Sources.{SourceSeen}
use Rattle.book_text.specs.Texts.{printed}
use Rattle.scrape_core.specs.Records.{IsWhole}
use Rattle.scrape_machine.specs.Machine.{book_of}
use Rattle.run_lock.specs.Callers.{BeginsWith}
use Rattle.station.specs.Control.{CallerUse, RecordsCaller, caller_use}
use Rattle.station.specs.Crews.{AllRecorded, RecordsSweeps}
use Rattle.station.specs.Ends.{ShelfWent, SinkWent, SourceWent, EndsSo}
use Rattle.station.specs.declared.ends.RunEnd.{RunEnd}
use Rattle.station.specs.declared.ends.RunEnd.TheVariants as run
use Rattle.live_run.specs.declared.asked.LiveEnd.{LiveEnd}
use Rattle.live_run.specs.declared.asked.LiveEnd.TheVariants.{Done, ControlFault, ControlLong, Absent, TooLong, Config, ReadFault, WriteFault, NoMemory}

-- the file of the configuration was not read, for this reason
abbrev pub IsUnread : LiveEnd → List ℕ → Use ShelfSeen → Type 0
IsUnread Absent file shelf = LacksFile shelf.before file × Missed shelf
IsUnread TooLong file shelf = HasLongerFile shelf.before file most_text_bytes × MetLonger shelf
IsUnread ReadFault file shelf = FailedToRead shelf
IsUnread NoMemory file shelf = IsUntouched shelf
IsUnread _ file shelf = ⊥

-- the text was not taken as a first load
abbrev pub IsUnloaded : LiveEnd → List ℕ → Type 0
IsUnloaded (Config fault) text = loaded [] text ≡ Err fault
IsUnloaded NoMemory text = ⊤
IsUnloaded _ text = ⊥

-- the file, read as it is, is refused as a first load
abbrev pub IsRefused : ConfFault → List ℕ → Use ShelfSeen → Type 0
IsRefused fault file shelf =
    (text : List ℕ) × HasFile shelf.before file text × (length text ≤ most_text_bytes) × (loaded [] text ≡ Err fault) × IsUntouched shelf

-- the run did not begin, for this reason
abbrev pub IsUnstarted : LiveEnd → List ℕ → Use ShelfSeen → Type 0
IsUnstarted (Config fault) file shelf = IsRefused fault file shelf
IsUnstarted e file shelf = IsUnread e file shelf

-- the text is taken as a first load
abbrev pub IsTaken : List ℕ → Type 0
IsTaken text = (jobs : List Filed) × (loaded [] text ≡ Ok jobs)

-- the journal of one load: the file as it is, which is taken, at this moment
abbrev pub IsFirst : ℤ → List ℕ → ShelfSeen → List Event → Type 0
IsFirst moment file shelf es =
    (text : List ℕ) × HasFile shelf file text × (length text ≤ most_text_bytes) × IsTaken text × (es ≡ Load moment text ∷ [])

-- a put failed: of the journal, and nothing was put of the book; or of the book
abbrev pub WroteFront : Bool → List Event → Use SinkSeen → Use SinkSeen → Type 0
WroteFront kept es trail out =
    (Cut (journal_text Two es) trail × IsUntouched out) ⊎ (Took (journal_text Two es) trail × Cut (printed kept (book_of es)) out)

-- what was asked of a run
pub record Wanted : Type 0 where
  pub file : List ℕ
  pub turns : ℕ
  pub kept : Bool

abbrev pub wanted : List ℕ → ℕ → Bool → Wanted
wanted file turns kept = record { file = file; turns = turns; kept = kept }

-- the sinks that the texts of its journal and of its book go to, before and after
pub record Outputs : Type 0 where
  pub trail : Use SinkSeen
  pub out : Use SinkSeen

abbrev pub outputs : Use SinkSeen → Use SinkSeen → Outputs
outputs trail out = record { trail = trail; out = out }

-- what it made of the objects that it borrowed, and of those that it was given
pub record Touched : Type 0 where
  pub shelf : Use ShelfSeen
  pub out : Use SinkSeen
  pub err : Use SinkSeen
  pub trail : Use SinkSeen
  pub control : Use SourceSeen
  pub clock : Use ClockSeen
  pub fetchers : Use (List FetchSeen)

-- the same, from the objects that its caller used, the sinks that its texts went to, its clock and its fetchers
abbrev pub touched : CallerUse → Outputs → Use ClockSeen → Use (List FetchSeen) → Touched
touched u o clock fetchers =
    record { shelf = u.shelf; out = o.out; err = u.err; trail = o.trail; control = u.control; clock = clock; fetchers = fetchers }

-- the journal of a run: it begins with the load of the file as it is, at the first reading of the clock; each started scrape has its one finish; and
-- for some seats of its events, each one of this run, the ticker brought so many sweeps, at the readings that follow, the workers finishes of what
-- their fetchers answered to the requests of their tickets, and the caller loads and updates that control asked for
pub record IsRunOf (end : RunEnd) (w : Wanted) (t : Touched) (es : List Event) : Type 0 where
  pub moment : ℤ
  pub later : ClockSeen
  pub reading : IfSome t.clock.before.readings (λ readings. Reads moment readings later.readings)
  pub text : List ℕ
  pub has : HasFile t.shelf.before w.file text
  pub short : length text ≤ most_text_bytes
  pub taken : IsTaken text
  pub begins : BeginsWith (Load moment text ∷ []) es
  pub whole : IsWhole es
  pub seats : List ℕ
  pub each : length seats ≡ length es
  pub known : All (λ q. q < 2 + length t.fetchers.before) seats
  pub sweeps : RecordsSweeps w.turns es seats later t.clock.after
  pub workers : AllRecorded 0 es seats t.fetchers.before t.fetchers.after
  pub caller : RecordsCaller (Load moment text ∷ []) end (caller_use t.shelf t.control t.err) es seats

-- the text of that journal went to the trail, and then that of its book to the output
pub record Wrote (end : RunEnd) (w : Wanted) (t : Touched) : Type 0 where
  pub journal : List Event
  pub run : IsRunOf end w t journal
  pub trail : Took (journal_text Two journal) t.trail
  pub book : Took (printed w.kept (book_of journal)) t.out

-- or fronts of them, for a put that failed
pub record WroteSome (w : Wanted) (t : Touched) : Type 0 where
  pub end : RunEnd
  pub journal : List Event
  pub run : IsRunOf end w t journal
  pub front : WroteFront w.kept journal t.trail t.out

-- neither had anything put to it
pub record WroteNothing (t : Touched) : Type 0 where
  pub trail : IsUntouched t.trail
  pub out : IsUntouched t.out

-- how a run ends: what was written, by its end
abbrev pub Writes : LiveEnd → Wanted → Touched → Type 0
Writes Done w t = Wrote run.Done w t
Writes ControlFault w t = Wrote run.ReadFault w t
Writes ControlLong w t = Wrote run.TooLong w t
Writes WriteFault w t = WroteSome w t ⊎ (WroteNothing t × Rose t.err.before.faults t.err.after.faults)
Writes _ w t = WroteNothing t

-- why it ended so, where it began: which count rose, and how much control gave
abbrev pub Stopped : LiveEnd → Touched → Type 0
Stopped Done t = EndsSo run.Done t.shelf t.err t.control
Stopped ControlFault t = EndsSo run.ReadFault t.shelf t.err t.control
Stopped ControlLong t = EndsSo run.TooLong t.shelf t.err t.control
Stopped _ t = ⊤

-- the end of a run whose journal and book are written, by that of its control
abbrev pub written_end : RunEnd → LiveEnd
written_end run.Done = Done
written_end run.ReadFault = ControlFault
written_end run.TooLong = ControlLong
written_end run.WriteFault = WriteFault
written_end run.NoMemory = NoMemory

-- what is written of a run that is over, and how that ends
abbrev pub WrittenSo : LiveEnd → LiveEnd → Bool → List Event → Outputs → Type 0
WrittenSo end WriteFault kept es o = WroteFront kept es o.trail o.out
WrittenSo end NoMemory kept es o = IsUntouched o.trail × IsUntouched o.out
WrittenSo end e kept es o = (e ≡ end) × Took (journal_text Two es) o.trail × Took (printed kept (book_of es)) o.out

abbrev pub Finishes : RunEnd → Bool → List Event → LiveEnd → Outputs → Type 0
Finishes run.NoMemory kept es e o = (e ≡ NoMemory) × IsUntouched o.trail × IsUntouched o.out
Finishes run.WriteFault kept es e o = (e ≡ WriteFault) × IsUntouched o.trail × IsUntouched o.out
Finishes run.Done kept es e o = WrittenSo Done e kept es o
Finishes run.ReadFault kept es e o = WrittenSo ControlFault e kept es o
Finishes run.TooLong kept es e o = WrittenSo ControlLong e kept es o

-- and why it did not begin: nothing but the shelf was touched then
abbrev pub Began : LiveEnd → Wanted → Touched → Type 0
Began Absent w t = IsUnstarted Absent w.file t.shelf × IsUntouched t.err
Began TooLong w t = IsUnstarted TooLong w.file t.shelf × IsUntouched t.err
Began (Config fault) w t = IsUnstarted (Config fault) w.file t.shelf × IsUntouched t.err
Began ReadFault w t = IsUnstarted ReadFault w.file t.shelf × IsUntouched t.err
Began _ w t = ⊤

-- nothing began: the file was not read, or its configuration is refused
abbrev pub IsUnbegun : LiveEnd → Type 0
IsUnbegun Absent = ⊤
IsUnbegun TooLong = ⊤
IsUnbegun (Config fault) = ⊤
IsUnbegun ReadFault = ⊤
IsUnbegun _ = ⊥

-- a clock gave one reading, the next of those that are known
abbrev pub IsReadOnce : Use ClockSeen → Type 0
IsReadOnce clock = (reading : ℤ) × IfSome clock.before.readings (λ readings. Reads reading readings clock.after.readings)

-- how a run ends
pub record Ended (e : LiveEnd) (w : Wanted) (t : Touched) : Type 0 where
  pub writes : Writes e w t
  pub began : Began e w t
  pub stopped : Stopped e t
  pub shelf : ShelfWent t.shelf
  pub err : SinkWent t.err
  pub control : SourceWent t.control
