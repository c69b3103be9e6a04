-- How a call of the program ends that serves.
use Rattle.std.specs.Prelude.{◌≡◌, ◌<◌, ◌⊎◌, ⊤, ℕ, ◌+◌, List, codes, false, Option, Some, None, Result, Ok, Err}
use Rattle.journal_text.specs.declared.faults.ScriptFault.{ScriptFault}
use Rattle.outside.specs.Objects.{SinkSeen, Use, KnownAbsent, KnownFile, KnownLonger, LacksFile, Missed, Rose}
use Rattle.command_words.specs.Askings.{Serving}
use Rattle.command_words.specs.declared.words.Order.{Order}
use Rattle.command_words.specs.declared.words.Order.TheVariants.{Still, Run, Serve}
use Rattle.scrape_commands.specs.Ends.{Speaks, status_at}
use Rattle.scrape_commands.specs.Laws.{IsFreely}
use Rattle.scrape_commands.specs.Scripts.{StandsFor, StandsForNone}
use Rattle.scrape_commands.specs.declared.refusals.Refusal.{Refusal}
use Rattle.scrape_commands.specs.declared.refusals.Refusal.TheVariants as refusal
use Rattle.status_server.specs.Serving.{most_bytes}
use Rattle.serve_command.specs.Serves.{AnswersAll, Ends, IsFaulty, Touched, most_script_bytes}
use Rattle.serve_command.specs.declared.ends.ScriptEnd.{ScriptEnd}
use Rattle.serve_command.specs.declared.ends.ScriptEnd.TheVariants as script
use Rattle.serve_command.specs.declared.ends.ServerEnd.{ServerEnd}
use Rattle.serve_command.specs.declared.ends.ServerEnd.TheVariants.{Done, Unreplayed, ReadFault, TooLong, WriteFault, NoMemory}

-- no serving is asked for
abbrev pub LacksServe : Option Order → Type 0
LacksServe None = ⊤
LacksServe (Some (Still a)) = ⊤
LacksServe (Some (Run r)) = ⊤
LacksServe (Some (Serve s)) = ⊥

-- the refusal that a script was not replayed
abbrev pub script_refusal : ScriptEnd → Refusal
script_refusal script.Absent = refusal.Absent
script_refusal script.TooLong = refusal.TooLong
script_refusal script.ReadFault = refusal.ReadFault
script_refusal (script.Script fault) = refusal.Script fault
script_refusal script.NoMemory = refusal.NoMemory

-- the refusal that an end is; none where all went well
abbrev pub refusal_of : ServerEnd → Result (Unit {0}) Refusal
refusal_of Done = Ok tt
refusal_of (Unreplayed end) = Err (script_refusal end)
refusal_of ReadFault = Err refusal.ReadFault
refusal_of TooLong = Err refusal.TooLong
refusal_of WriteFault = Err refusal.WriteFault
refusal_of NoMemory = Err refusal.NoMemory

-- the file that its message names: too long a connection is named `control`
abbrev pub file_said : ServerEnd → List ℕ → List ℕ
file_said TooLong name = codes "control"
file_said _ name = name

-- the file of the script is known, and has these bytes, which a script may have
abbrev pub KnownScript : Serving → Touched → List ℕ → Type 0
KnownScript s t = KnownFile t.shelf.before s.script most_script_bytes

-- the shelf didn't fail to read; and neither did control, and no writing failed
abbrev pub IsRead : Touched → Type 0
IsRead t = ¬ Rose t.shelf.before.faults t.shelf.after.faults

pub record IsSound (t : Touched) : Type 0 where
  pub read : IsRead t
  pub given : ¬ Rose t.control.before.faults t.control.after.faults
  pub put : ¬ Rose t.out.before.faults t.out.after.faults
  pub written : ¬ Rose t.trail.before.faults t.trail.after.faults

-- the connection gave more than it may
abbrev pub GaveMore : Touched → Type 0
GaveMore t = t.control.before.given + most_bytes < t.control.after.given

-- which status is due, where nothing fails: for a script that isn't there, is too long or spells no journal, and for
-- one that spells one, where the connection gives at most 1 MiB. Out of memory alone may stand in its place
pub record Complete (status : ℕ) (s : Serving) (t : Touched) : Type 0 where
  pub missing : KnownAbsent t.shelf.before s.script → IsRead t → IsFreely 3 status
  pub longer : KnownLonger t.shelf.before s.script most_script_bytes → IsRead t → IsFreely 9 status
  pub unspelled : (bytes : List ℕ) → KnownScript s t bytes → StandsForNone false bytes → IsRead t → IsFreely 5 status
  pub done : (bytes : List ℕ) → KnownScript s t bytes → StandsFor false bytes → IsSound t → ¬ GaveMore t → IsFreely 0 status

-- what a status says of the objects
pub record Causes (status : ℕ) (s : Serving) (t : Touched) : Type 0 where
  pub absent : status ≡ 3 → LacksFile t.shelf.before s.script × Missed t.shelf
  pub misspelled : status ≡ 5 → (fault : ScriptFault) × IsFaulty s.script t.shelf fault
  pub read_fault : status ≡ 6 → Rose t.shelf.before.faults t.shelf.after.faults ⊎ Rose t.control.before.faults t.control.after.faults
  pub write_fault : status ≡ 7 → Rose t.out.before.faults t.out.after.faults ⊎ Rose t.trail.before.faults t.trail.after.faults
  pub too_long : status ≡ 9 → Rose t.shelf.before.overs t.shelf.after.overs ⊎ GaveMore t

-- serving ended with this status; the error stream speaks of that end, and of nothing else
pub record EndedServe (status : ℕ) (s : Serving) (t : Touched) (err : Use SinkSeen) : Type 0 where
  pub end : ServerEnd
  pub status_is : status ≡ status_at (refusal_of end)
  pub ends : Ends end s t
  pub speaks : Speaks (refusal_of end) (file_said end s.script) err
  pub whole : status ≡ 0 → AnswersAll s t
  pub complete : Complete status s t
  pub causes : Causes status s t
