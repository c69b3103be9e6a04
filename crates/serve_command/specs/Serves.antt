-- What serving a connection over the core of a script comes to ("Storage" of the Prometheus documentation: what was
-- loaded outlives the process).
use Rattle.std.specs.Prelude.{◌≡◌, ◌≢◌, ◌≤◌, ◌⊎◌, ⊤, ℕ, List, length, false, IfSome}
use Rattle.journal_text.specs.Events.{journal_text}
use Rattle.journal_text.specs.declared.events.Event.{Event}
use Rattle.journal_text.specs.declared.faults.ScriptFault.{ScriptFault}
use Rattle.journal_text.specs.declared.versions.Version.TheVariants.{Two}
use Rattle.outside.specs.Objects.{ShelfSeen, SinkSeen, Use, Cut, FailedToRead, HasFile, HasLongerFile, IsUntouched, LacksFile, MetLonger, Missed, Took}
use Rattle.outside.specs.Sources.{SourceSeen}
use Rattle.command_words.specs.Askings.{Serving}
use Rattle.command_words.specs.Words.{limit_of}
use Rattle.command_words.specs.declared.words.Command.TheVariants.{Replay}
use Rattle.scrape_commands.specs.Scripts.{IsFaultOf, IsScriptOf}
use Rattle.status_server.specs.Reloads.{basis}
use Rattle.status_server.specs.Serving as server
use Rattle.status_server.specs.Serving.{IsServedWhole, Serves}
use Rattle.status_server.specs.Steps.{site}
use Rattle.status_server.specs.declared.serving.ServeEnd.{ServeEnd}
use Rattle.status_server.specs.declared.serving.ServeEnd.TheVariants as serve
use Rattle.serve_command.specs.declared.ends.ScriptEnd.{ScriptEnd}
use Rattle.serve_command.specs.declared.ends.ScriptEnd.TheVariants as script
use Rattle.serve_command.specs.declared.ends.ServerEnd.{ServerEnd}
use Rattle.serve_command.specs.declared.ends.ServerEnd.TheVariants.{Done, Unreplayed, ReadFault, TooLong, WriteFault, NoMemory}

-- the objects of a call before and after: files, replies, journal and connection
pub record Touched : Type 0 where
  pub shelf : Use ShelfSeen
  pub out : Use SinkSeen
  pub trail : Use SinkSeen
  pub control : Use SourceSeen

abbrev pub touched : Use ShelfSeen → Use SinkSeen → Use SinkSeen → Use SourceSeen → Touched
touched shelf out trail control = record { shelf = shelf; out = out; trail = trail; control = control }

-- a script is at most 256 MiB long
abbrev pub most_script_bytes : ℕ
most_script_bytes = limit_of (Replay false)

-- the file of this name is a script that spells this journal
pub record IsReplayed (name : List ℕ) (shelf : ShelfSeen) (journal : List Event) : Type 0 where
  pub bytes : List ℕ
  pub has : HasFile shelf name bytes
  pub short : length bytes ≤ most_script_bytes
  pub is : IsScriptOf false bytes journal

-- the file of this name is none, for this fault, and reading it changed nothing
pub record IsFaulty (name : List ℕ) (shelf : Use ShelfSeen) (fault : ScriptFault) : Type 0 where
  pub bytes : List ℕ
  pub has : HasFile shelf.before name bytes
  pub short : length bytes ≤ most_script_bytes
  pub is : IsFaultOf false bytes fault
  pub same : IsUntouched shelf

-- the script of this name was not replayed, for this reason
abbrev pub IsUnreplayed : ScriptEnd → List ℕ → Use ShelfSeen → Type 0
IsUnreplayed script.Absent name shelf = LacksFile shelf.before name × Missed shelf
IsUnreplayed script.TooLong name shelf = HasLongerFile shelf.before name most_script_bytes × MetLonger shelf
IsUnreplayed script.ReadFault name shelf = FailedToRead shelf
IsUnreplayed (script.Script fault) name shelf = IsFaulty name shelf fault
IsUnreplayed script.NoMemory name shelf = IsUntouched shelf

-- nothing was served: nothing but the shelf was touched
pub record Unserved (end : ScriptEnd) (s : Serving) (t : Touched) : Type 0 where
  pub cause : IsUnreplayed end s.script t.shelf
  pub out_same : IsUntouched t.out
  pub trail_same : IsUntouched t.trail
  pub control_same : IsUntouched t.control

-- the core of the script served the connection to this end, with this journal behind it
pub record IsServed (end : ServeEnd) (s : Serving) (t : Touched) (after : List Event) : Type 0 where
  pub journal : List Event
  pub replayed : IsReplayed s.script t.shelf.before journal
  pub serves : Serves end journal s.file (server.touched t.shelf t.control t.out) after

-- the text of that journal went to the trail
pub record Wrote (end : ServeEnd) (s : Serving) (t : Touched) : Type 0 where
  pub after : List Event
  pub served : IsServed end s t after
  pub trail : Took (journal_text Two after) t.trail

-- nothing of it did
pub record WroteNothing (end : ServeEnd) (s : Serving) (t : Touched) : Type 0 where
  pub after : List Event
  pub served : IsServed end s t after
  pub trail_same : IsUntouched t.trail

-- the journal is written behind such an end
abbrev pub IsWritten : ServeEnd → Type 0
IsWritten serve.NoMemory = ⊥
IsWritten serve.WriteFault = ⊥
IsWritten _ = ⊤

-- a front of it went there, for a put that failed
pub record WroteFront (s : Serving) (t : Touched) : Type 0 where
  pub end : ServeEnd
  pub written : IsWritten end
  pub after : List Event
  pub served : IsServed end s t after
  pub trail : Cut (journal_text Two after) t.trail

-- memory ran out: while the connection was served, or for the text of the journal
pub record OutOfMemory (s : Serving) (t : Touched) : Type 0 where
  pub end : ServeEnd
  pub put : end ≢ serve.WriteFault
  pub nothing : WroteNothing end s t

-- how serving ends: what was served, and what is written of the journal behind it
abbrev pub Ends : ServerEnd → Serving → Touched → Type 0
Ends Done s t = Wrote serve.Done s t
Ends (Unreplayed end) s t = Unserved end s t
Ends ReadFault s t = Wrote serve.ReadFault s t
Ends TooLong s t = Wrote serve.TooLong s t
Ends WriteFault s t = WroteNothing serve.WriteFault s t ⊎ WroteFront s t
Ends NoMemory s t = OutOfMemory s t

-- where it is known what control has, each request of that is answered behind the script's journal, and the journal
-- behind them went to the trail
pub record AnswersAll (s : Serving) (t : Touched) : Type 0 where
  pub journal : List Event
  pub replayed : IsReplayed s.script t.shelf.before journal
  pub after : List Event
  pub answered : IfSome t.control.before.left (λ had. IsServedWhole (basis journal (site t.shelf.before s.file)) had t.out after)
  pub trail : Took (journal_text Two after) t.trail

-- the end where the journal is written, by that of the connection
abbrev pub written_end : ServeEnd → ServerEnd
written_end serve.Done = Done
written_end serve.ReadFault = ReadFault
written_end serve.TooLong = TooLong
written_end serve.WriteFault = WriteFault
written_end serve.NoMemory = NoMemory

-- what is written of a journal that is due, and how that ends
abbrev pub WrittenSo : ServerEnd → ServerEnd → List Event → Use SinkSeen → Type 0
WrittenSo due WriteFault es trail = Cut (journal_text Two es) trail
WrittenSo due NoMemory es trail = IsUntouched trail
WrittenSo due e es trail = (e ≡ due) × Took (journal_text Two es) trail

abbrev pub Finishes : ServeEnd → List Event → ServerEnd → Use SinkSeen → Type 0
Finishes serve.NoMemory es e trail = (e ≡ NoMemory) × IsUntouched trail
Finishes serve.WriteFault es e trail = (e ≡ WriteFault) × IsUntouched trail
Finishes serve.Done es e trail = WrittenSo Done e es trail
Finishes serve.ReadFault es e trail = WrittenSo ReadFault e es trail
Finishes serve.TooLong es e trail = WrittenSo TooLong e es trail
