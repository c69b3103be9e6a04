-- What follows of a call that ended.
use Rattle.std.specs.Prelude.{◌≡◌, ◌≢◌, ◌⊎◌, ℕ, ◌≤◌, Bool, ⊤, List, Some, None, IsSomeAnd, Ok, Err}
use Rattle.outside.specs.Objects.{IsUntouched, KnownAbsent, KnownFile, KnownLonger, Rose, LacksFile, HasLongerFile, Missed, MetLonger, FailedToRead}
use Rattle.journal_text.specs.declared.faults.ScriptFault.{ScriptFault}
use Rattle.jobs_in_force.specs.declared.jobs.Filed.{Filed}
use Rattle.config_fields.specs.declared.fault.ConfFault.{ConfFault}
use Rattle.scrape_commands.specs.Checks.{IsConf, IsFault, fault_message}
use Rattle.scrape_commands.specs.Scripts.{HasScriptFault, StandsFor, StandsForNone, HasFault, cut_of, fault_message as script_message}
use Rattle.scrape_commands.specs.Instants.{IsReady, IsSureOf, RefusesSelector, fault_message as selector_message}
use Rattle.scrape_commands.specs.Ends.{Call, work_of, Ended, Reads, Prints, PrintsFront, IsSaid, line_message, message_of, status_of}
use Rattle.om_reader.specs.Bodies.{converted}
use Rattle.synth.specs.declared.scripts.Plan.{Plan}
use Rattle.command_words.specs.Askings.{Asking, asking}
use Rattle.command_words.specs.Words.{OfFile, asked_in, file_in, limit_of}
use Rattle.command_words.specs.declared.words.Asked.TheVariants.{File, Synth}
use Rattle.command_words.specs.declared.words.Command.{Command}
use Rattle.command_words.specs.declared.words.Command.TheVariants.{Replay, Check, Convert, At}
use Rattle.scrape_commands.specs.declared.refusals.Refusal.{Refusal}
use Rattle.scrape_commands.specs.declared.refusals.Refusal.TheVariants.{BadWords, Selector, Absent, Config, Script, OpenMetrics, ReadFault, WriteFault, NoMemory, TooLong}
use Rattle.scrape_commands.specs.declared.refusals.SelectorFault.{SelectorFault}

-- a refusal names no fault of the selector or of the file: its status says all of it
abbrev pub NamesNoFault : Refusal → Type 0
NamesNoFault BadWords = ⊤
NamesNoFault (Selector fault) = ⊥
NamesNoFault Absent = ⊤
NamesNoFault (Config fault) = ⊥
NamesNoFault (Script fault) = ⊥
NamesNoFault (OpenMetrics line) = ⊥
NamesNoFault ReadFault = ⊤
NamesNoFault WriteFault = ⊤
NamesNoFault NoMemory = ⊤
NamesNoFault TooLong = ⊤

-- what each status says of the call
pub record Causes (c : Call) : Type 0 where
  pub done : Ended 0 c → Prints (work_of c)
  pub quiet : Ended 0 c → IsUntouched c.err
  pub bad_words : Ended 2 c → asked_in c.words ≡ None
  pub selector : Ended 12 c → (fault : SelectorFault) × IsSomeAnd (asked_in c.words) (OfFile (λ a. RefusesSelector a.command fault))
      × IsSaid (selector_message fault) c.err
  pub absent : Ended 3 c → Missed c.shelf × IsSomeAnd (asked_in c.words) (OfFile (λ a. IsReady a.command × LacksFile c.shelf.before a.file))
  pub faulty : Ended 4 c → (fault : ConfFault) × (bytes : List ℕ) × Reads Check bytes (work_of c) × IsFault bytes fault
      × IsSaid (fault_message fault) c.err
  pub misspelled : Ended 5 c → (fault : ScriptFault) × (command : Command) × (bytes : List ℕ) × Reads command bytes (work_of c)
      × HasScriptFault command bytes fault × IsSaid (script_message fault) c.err
  pub faulty_line : Ended 13 c → (line : ℕ) × (bytes : List ℕ) × Reads Convert bytes (work_of c) × (converted bytes ≡ Err line)
      × IsSaid (line_message line) c.err
  pub read_fault : Ended 6 c → FailedToRead c.shelf
  pub front : Ended 7 c → PrintsFront (work_of c)
  pub too_long : Ended 9 c → MetLonger c.shelf
      × IsSomeAnd (asked_in c.words) (OfFile (λ a. IsReady a.command × HasLongerFile c.shelf.before a.file (limit_of a.command)))
  pub said : (r : Refusal) → NamesNoFault r → Ended (status_of r) c → IsSaid (message_of (file_in c.words) r) c.err

-- a call ends with one of these statuses
abbrev pub IsStatus : ℕ → Type 0
IsStatus status = (status ≡ 0) ⊎ ((r : Refusal) × (status ≡ status_of r))

-- what the words ask for is this, of a file that is known, within the limit
pub record AsksFile (command : Command) (bytes : List ℕ) (c : Call) : Type 0 where
  pub kept : Bool
  pub asked : asked_in c.words ≡ Some (File (asking kept (file_in c.words) command))
  pub known : KnownFile c.shelf.before (file_in c.words) (limit_of command) bytes

-- this is so of a command that reads a script, whether that may have been cut, and of the selector, which can't be refused
pub record AskedScript (c : Call) : Type 0 where
  pub command : Command
  pub cut : Bool
  pub bytes : List ℕ
  pub script : cut_of command ≡ Some cut
  pub asks : AsksFile command bytes c
  pub sure : IsSureOf command

-- reading didn't fail; writing didn't; neither did; nothing was counted at all
abbrev pub IsRead : Call → Type 0
IsRead c = ¬ Rose c.shelf.before.faults c.shelf.after.faults

abbrev pub IsWritten : Call → Type 0
IsWritten c = ¬ Rose c.out.before.faults c.out.after.faults

pub record IsSound (c : Call) : Type 0 where
  pub read : IsRead c
  pub written : IsWritten c

pub record IsUncounted (c : Call) : Type 0 where
  pub sound : IsSound c
  pub found : ¬ Rose c.shelf.before.misses c.shelf.after.misses
  pub short : ¬ Rose c.shelf.before.overs c.shelf.after.overs

-- a status, or out of memory in its place
abbrev pub IsFreely : ℕ → ℕ → Type 0
IsFreely due status = (status ≡ due) ⊎ (status ≡ 8)

-- the status for a file whose content a command refuses
abbrev pub refused_at : Command → ℕ
refused_at (Replay cut) = 5
refused_at Check = 4
refused_at Convert = 13
refused_at (At i) = 5

-- which status is due: where the words are others; where the selector is none; where the file is known and reading and writing don't fail; where
-- nothing is counted. Out of memory alone may stand in its place
pub record Complete (status : ℕ) (c : Call) : Type 0 where
  pub words : asked_in c.words ≡ None → IsFreely 2 status
  pub selector : (a : Asking) → asked_in c.words ≡ Some (File a) → ¬ IsReady a.command → IsFreely 12 status
  pub missing : (a : Asking) → asked_in c.words ≡ Some (File a) → IsSureOf a.command →
      KnownAbsent c.shelf.before (file_in c.words) → IsRead c → IsFreely 3 status
  pub longer : (a : Asking) → asked_in c.words ≡ Some (File a) → IsSureOf a.command →
      KnownLonger c.shelf.before (file_in c.words) (limit_of a.command) → IsRead c → IsFreely 9 status
  pub replayed : (s : AskedScript c) → StandsFor s.cut s.bytes → IsSound c → IsFreely 0 status
  pub unspelled : (s : AskedScript c) → StandsForNone s.cut s.bytes → IsRead c → IsFreely 5 status
  pub misspelled : (s : AskedScript c) (fault : ScriptFault) → HasFault s.cut s.bytes fault → status ≡ 5 →
      IsSaid (script_message fault) c.err
  pub checked : (bytes : List ℕ) (jobs : List Filed) → AsksFile Check bytes c → IsConf bytes jobs → IsSound c → IsFreely 0 status
  pub refused : (bytes : List ℕ) (fault : ConfFault) → AsksFile Check bytes c → IsFault bytes fault → IsRead c → IsFreely 4 status
  pub said : (bytes : List ℕ) (fault : ConfFault) → AsksFile Check bytes c → IsFault bytes fault → status ≡ 4 →
      IsSaid (fault_message fault) c.err
  pub plain : (bytes text : List ℕ) → AsksFile Convert bytes c → converted bytes ≡ Ok text → IsSound c → IsFreely 0 status
  pub faulty : (bytes : List ℕ) (line : ℕ) → AsksFile Convert bytes c → converted bytes ≡ Err line → IsRead c → IsFreely 13 status
  pub line : (bytes : List ℕ) (line : ℕ) → AsksFile Convert bytes c → converted bytes ≡ Err line → status ≡ 13 →
      IsSaid (line_message line) c.err
  pub made : (p : Plan) → asked_in c.words ≡ Some (Synth p) → IsWritten c → IsFreely 0 status
  pub otherwise : (a : Asking) → asked_in c.words ≡ Some (File a) → IsSureOf a.command → IsUncounted c →
      IsFreely 0 status ⊎ (status ≡ refused_at a.command)

-- no count of any object fell
pub record NoCountFell (c : Call) : Type 0 where
  pub misses : c.shelf.before.misses ≤ c.shelf.after.misses
  pub overs : c.shelf.before.overs ≤ c.shelf.after.overs
  pub reads : c.shelf.before.faults ≤ c.shelf.after.faults
  pub puts : c.out.before.faults ≤ c.out.after.faults
  pub messages : c.err.before.faults ≤ c.err.after.faults

-- a call ended with this status, by the one table; and what a reader looks for first, which follows from it
pub record EndedStill (status : ℕ) (c : Call) : Type 0 where
  pub ended : Ended status c
  pub printed : status ≡ 0 → Prints (work_of c)
  pub unwritten : status ≢ 0 → status ≢ 7 → IsUntouched c.out
  pub complete : Complete status c
  pub later : NoCountFell c
