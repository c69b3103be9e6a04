-- How a call of the program ends that makes a live run.
use Rattle.std.specs.Prelude.{◌≡◌, ◌⊎◌, ◌<◌, ⊤, ℕ, ◌+◌, List, [], codes, Option, Some, None, Result, Ok, Err}
use Rattle.config_fields.specs.declared.fault.ConfFault.{ConfFault}
use Rattle.jobs_in_force.specs.Jobs.{loaded}
use Rattle.outside.specs.Fetches.{FetchSeen}
use Rattle.outside.specs.Objects.{SinkSeen, Use, used, IsUntouched, KnownAbsent, KnownFile, KnownLonger, Rose}
use Rattle.outside.specs.Sizes.{most_text_bytes}
use Rattle.station.specs.Control.{most_control_bytes}
use Rattle.station.specs.Ends.{IsShort}
use Rattle.command_words.specs.Askings.{Running}
use Rattle.command_words.specs.declared.words.Order.{Order}
use Rattle.command_words.specs.declared.words.Order.TheVariants.{Still, Run, Serve}
use Rattle.live_run.specs.Runs as run
use Rattle.live_run.specs.Runs.{IsTaken, IsUnbegun, Touched, wanted}
use Rattle.live_run.specs.declared.asked.LiveEnd.{LiveEnd}
use Rattle.live_run.specs.declared.asked.LiveEnd.TheVariants.{Done, ControlFault, ControlLong, Absent, TooLong, Config, ReadFault, WriteFault, NoMemory}
use Rattle.scrape_commands.specs.Ends.{Speaks, status_at}
use Rattle.scrape_commands.specs.Laws.{IsFreely}
use Rattle.scrape_commands.specs.declared.refusals.Refusal.{Refusal}
use Rattle.scrape_commands.specs.declared.refusals.Refusal.TheVariants as refusal

-- neither a live run nor serving is asked for
abbrev pub IsStill : Option Order → Type 0
IsStill None = ⊤
IsStill (Some (Still a)) = ⊤
IsStill (Some (Run r)) = ⊥
IsStill (Some (Serve s)) = ⊥

-- the refusal that a run's end is; none where all went well
abbrev pub refusal_of : LiveEnd → Result (Unit {0}) Refusal
refusal_of Done = Ok tt
refusal_of ControlFault = Err refusal.ReadFault
refusal_of ControlLong = Err refusal.TooLong
refusal_of Absent = Err refusal.Absent
refusal_of TooLong = Err refusal.TooLong
refusal_of (Config fault) = Err (refusal.Config fault)
refusal_of ReadFault = Err refusal.ReadFault
refusal_of WriteFault = Err refusal.WriteFault
refusal_of NoMemory = Err refusal.NoMemory

-- the file that its message names: too much control input is named `control`
abbrev pub file_said : LiveEnd → List ℕ → List ℕ
file_said ControlLong file = codes "control"
file_said _ file = file

-- what is left alone where no live run is made: the trail, and the fetchers
pub record IsAlone (trail : Use SinkSeen) (fetchers : Use (List FetchSeen)) : Type 0 where
  pub trail_same : IsUntouched trail
  pub fetchers_same : IsUntouched fetchers

-- the file of the words is known, and has this text, which a configuration may have
abbrev pub KnownText : Running → Touched → List ℕ → Type 0
KnownText r t = KnownFile t.shelf.before r.file most_text_bytes

-- the shelf didn't fail to read, and control didn't; no writing failed
abbrev pub IsRead : Touched → Type 0
IsRead t = ¬ Rose t.shelf.before.faults t.shelf.after.faults

abbrev pub IsGiven : Touched → Type 0
IsGiven t = ¬ Rose t.control.before.faults t.control.after.faults

pub record IsWritten (t : Touched) : Type 0 where
  pub out : ¬ Rose t.out.before.faults t.out.after.faults
  pub err : ¬ Rose t.err.before.faults t.err.after.faults
  pub trail : ¬ Rose t.trail.before.faults t.trail.after.faults

-- control gave more than it may
abbrev pub GaveMore : Touched → Type 0
GaveMore t = t.control.before.given + most_control_bytes < t.control.after.given

-- which status is due, where nothing fails: for a file that isn't there or is too long; for a configuration that is refused; for one that is taken,
-- where control gives at most 1 MiB; and where it gave more. Out of memory alone may stand in its place
pub record CompleteLive (status : ℕ) (r : Running) (t : Touched) : Type 0 where
  pub missing : KnownAbsent t.shelf.before r.file → IsRead t → IsWritten t → IsFreely 3 status
  pub longer : KnownLonger t.shelf.before r.file most_text_bytes → IsRead t → IsWritten t → IsFreely 9 status
  pub refused : (text : List ℕ) (fault : ConfFault) → KnownText r t text → loaded [] text ≡ Err fault → IsRead t → IsWritten t → IsFreely 4 status
  pub done : (text : List ℕ) → KnownText r t text → IsTaken text → IsRead t → IsGiven t → IsWritten t → IsShort t.control → IsFreely 0 status
  pub more : GaveMore t → IsWritten t → IsFreely 9 status

-- what a status says of the counts
pub record CausesLive (status : ℕ) (t : Touched) : Type 0 where
  pub read_fault : status ≡ 6 → Rose t.shelf.before.faults t.shelf.after.faults ⊎ Rose t.control.before.faults t.control.after.faults
  pub write_fault : status ≡ 7 → Rose t.err.before.faults t.err.after.faults
      ⊎ (Rose t.trail.before.faults t.trail.after.faults ⊎ Rose t.out.before.faults t.out.after.faults)
  pub too_long : status ≡ 9 → Rose t.shelf.before.overs t.shelf.after.overs ⊎ GaveMore t

-- a live run ended with this status; what the run said of control lines stands before the message of its end; where nothing began, control, clock
-- and fetchers came back so
pub record EndedLive (status : ℕ) (r : Running) (t : Touched) (back : Type 0) : Type 0 where
  pub end : LiveEnd
  pub status_is : status ≡ status_at (refusal_of end)
  pub between : SinkSeen
  pub run : run.Ended end (wanted r.file r.turns r.kept) (record t { err = used t.err.before between })
  pub speaks : Speaks (refusal_of end) (file_said end r.file) (used between t.err.after)
  pub unbegun : IsUnbegun end → back
  pub complete : CompleteLive status r t
  pub causes : CausesLive status t
