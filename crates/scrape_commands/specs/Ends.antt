-- How a call of the program ends: the one table of its refusals.
use Rattle.std.specs.Prelude.{◌≡◌, ◌⊎◌, ℕ, pos, ◌≤◌, Bool, false, ⊤, List, ◌++◌, codes, length, Option, Some, None, IsSomeAnd, Result, Ok, Err}
use Rattle.std.specs.Fmt.{decimal}
use Rattle.outside.specs.Objects.{ShelfSeen, SinkSeen, Use, IsUntouched, Rose, HasFile, LacksFile, HasLongerFile, Missed, MetLonger, FailedToRead, Adds, AddsFront, Took, Cut}
use Rattle.journal_text.specs.declared.events.Event.{Event}
use Rattle.jobs_in_force.specs.declared.jobs.Filed.{Filed}
use Rattle.scrape_machine.specs.Machine.{book_of}
use Rattle.book_text.specs.Texts.{printed}
use Rattle.scrape_commands.specs.Checks.{IsConf, IsFault, ok_line, fault_message}
use Rattle.scrape_commands.specs.Scripts.{IsScriptOf, HasScriptFault, fault_message as script_message}
use Rattle.scrape_commands.specs.Instants.{IsReady, IsSelectorOf, IsViewText, RefusesSelector, fault_message as selector_message}
use Rattle.scrape_commands.specs.Synths.{synth_text}
use Rattle.om_reader.specs.Bodies.{converted}
use Rattle.instant_view.specs.declared.matchers.SelectorParts.{SelectorParts}
use Rattle.synth.specs.declared.scripts.Plan.{Plan}
use Rattle.command_words.specs.Askings.{Asking, asking}
use Rattle.command_words.specs.Words.{OfFile, asked_in, file_in, limit_of}
use Rattle.command_words.specs.declared.words.Asked.{Asked}
use Rattle.command_words.specs.declared.words.Asked.TheVariants.{File, Synth}
use Rattle.command_words.specs.declared.words.Command.{Command}
use Rattle.command_words.specs.declared.words.Command.TheVariants.{Replay, Check, Convert, At}
use Rattle.scrape_commands.specs.declared.refusals.Refusal.{Refusal}
use Rattle.scrape_commands.specs.declared.refusals.Refusal.TheVariants.{BadWords, Selector, Absent, Config, Script, OpenMetrics, ReadFault, WriteFault, NoMemory, TooLong}

-- a call of the program: its words, and what it made of each outside object
pub record Call : Type 0 where
  pub words : List (List ℕ)
  pub shelf : Use ShelfSeen
  pub out : Use SinkSeen
  pub err : Use SinkSeen

abbrev pub call : List (List ℕ) → Use ShelfSeen → Use SinkSeen → Use SinkSeen → Call
call words shelf out err = record { words = words; shelf = shelf; out = out; err = err }

-- the part of it in which a command is done
pub record Work : Type 0 where
  pub asked : Option Asked
  pub shelf : Use ShelfSeen
  pub out : Use SinkSeen

abbrev pub work : Option Asked → Use ShelfSeen → Use SinkSeen → Work
work asked shelf out = record { asked = asked; shelf = shelf; out = out }

abbrev pub work_of : Call → Work
work_of c = work (asked_in c.words) c.shelf c.out

-- this command was asked for, with its selector, and its file has these bytes (where its files are known), within the limit
pub record Reads (command : Command) (bytes : List ℕ) (w : Work) : Type 0 where
  pub file : List ℕ
  pub kept : Bool
  pub asked : w.asked ≡ Some (File (asking kept file command))
  pub has : HasFile w.shelf.before file bytes
  pub short : length bytes ≤ limit_of command
  pub ready : IsReady command

-- what a command prints for the bytes of its file: the book of the journal that they stand for, with verdicts or without, the number of jobs, the body
-- that they become, or what the selector sees at the moment in the book
abbrev pub IsOutput : Command → Bool → List ℕ → List ℕ → Type 0
IsOutput (Replay cut) kept bytes text = (journal : List Event) × IsScriptOf cut bytes journal × (text ≡ printed kept (book_of journal))
IsOutput Check kept bytes text = (jobs : List Filed) × IsConf bytes jobs × (text ≡ ok_line (length jobs))
IsOutput Convert kept bytes text = converted bytes ≡ Ok text
IsOutput (At i) kept bytes text =
    (journal : List Event) × (parts : SelectorParts) × IsScriptOf false bytes journal × IsSelectorOf i.selector parts
    × IsViewText (book_of journal) parts (pos i.moment) text

-- this is what the command prints of its file, as a shelf has that
pub record IsTextOf (text : List ℕ) (a : Asking) (shelf : ShelfSeen) : Type 0 where
  pub bytes : List ℕ
  pub has : HasFile shelf a.file bytes
  pub short : length bytes ≤ limit_of a.command
  pub ready : IsReady a.command
  pub output : IsOutput a.command a.kept bytes text

-- a command over a file was asked for, and this is what it prints
pub record IsOfFile (text : List ℕ) (w : Work) : Type 0 where
  pub command : Command
  pub bytes : List ℕ
  pub reads : Reads command bytes w
  pub output : IsOutput command reads.kept bytes text

-- a script of these numbers was asked for, and this is what is printed of its journal
pub record IsOfScript (text : List ℕ) (w : Work) : Type 0 where
  pub plan : Plan
  pub asked : w.asked ≡ Some (Synth plan)
  pub summary : text ≡ synth_text plan

-- this is the text that the words ask for
abbrev pub IsAskedFor : List ℕ → Work → Type 0
IsAskedFor text w = IsOfFile text w ⊎ IsOfScript text w

-- the text that the words ask for was added to the output, every byte of it
pub record Prints (w : Work) : Type 0 where
  pub text : List ℕ
  pub asked_for : IsAskedFor text w
  pub put : Took text w.out

-- a put failed: only a front of that text was added
pub record PrintsFront (w : Work) : Type 0 where
  pub text : List ℕ
  pub asked_for : IsAskedFor text w
  pub put : Cut text w.out

-- the status of a refusal
abbrev pub status_of : Refusal → ℕ
status_of BadWords = 2
status_of (Selector fault) = 12
status_of Absent = 3
status_of (Config fault) = 4
status_of (Script fault) = 5
status_of (OpenMetrics line) = 13
status_of ReadFault = 6
status_of WriteFault = 7
status_of NoMemory = 8
status_of TooLong = 9

-- the message of a body of OpenMetrics whose first faulty line has this number
abbrev pub line_message : ℕ → List ℕ
line_message line = codes "scrape: openmetrics line " ++ (decimal line ++ codes "\n")

-- the message of a refusal, for the file that the words name
abbrev pub message_of : List ℕ → Refusal → List ℕ
message_of file BadWords = codes "scrape: bad words\n"
message_of file (Selector fault) = selector_message fault
message_of file Absent = codes "scrape: absent " ++ (file ++ codes "\n")
message_of file (Config fault) = fault_message fault
message_of file (Script fault) = script_message fault
message_of file (OpenMetrics line) = line_message line
message_of file ReadFault = codes "scrape: read fault\n"
message_of file WriteFault = codes "scrape: write fault\n"
message_of file NoMemory = codes "scrape: no memory\n"
message_of file TooLong = codes "scrape: too long " ++ (file ++ codes "\n")

-- the cause of each refusal; the selector of `at` is read before the file
abbrev pub IsCause : Refusal → Work → Type 0
IsCause BadWords w = w.asked ≡ None
IsCause (Selector fault) w = IsSomeAnd w.asked (OfFile (λ a. RefusesSelector a.command fault))
IsCause Absent w = IsSomeAnd w.asked (OfFile (λ a. IsReady a.command × LacksFile w.shelf.before a.file))
IsCause (Config fault) w = (bytes : List ℕ) × Reads Check bytes w × IsFault bytes fault
IsCause (Script fault) w = (command : Command) × (bytes : List ℕ) × Reads command bytes w × HasScriptFault command bytes fault
IsCause (OpenMetrics line) w = (bytes : List ℕ) × Reads Convert bytes w × (converted bytes ≡ Err line)
IsCause ReadFault w = IsSomeAnd w.asked (OfFile (λ a. IsReady a.command))
IsCause WriteFault w = PrintsFront w
IsCause NoMemory w = ⊤
IsCause TooLong w = IsSomeAnd w.asked (OfFile (λ a. IsReady a.command × HasLongerFile w.shelf.before a.file (limit_of a.command)))

-- what it leaves of the shelf: one count risen, of three refusals, and nothing else changed
abbrev pub LeavesShelf : Refusal → Use ShelfSeen → Type 0
LeavesShelf BadWords shelf = IsUntouched shelf
LeavesShelf (Selector fault) shelf = IsUntouched shelf
LeavesShelf Absent shelf = Missed shelf
LeavesShelf (Config fault) shelf = IsUntouched shelf
LeavesShelf (Script fault) shelf = IsUntouched shelf
LeavesShelf (OpenMetrics line) shelf = IsUntouched shelf
LeavesShelf ReadFault shelf = FailedToRead shelf
LeavesShelf WriteFault shelf = IsUntouched shelf
LeavesShelf NoMemory shelf = IsUntouched shelf
LeavesShelf TooLong shelf = MetLonger shelf

-- and of the output: nothing is added but a front at a write fault, as its cause says
abbrev pub LeavesOut : Refusal → Use SinkSeen → Type 0
LeavesOut BadWords out = IsUntouched out
LeavesOut (Selector fault) out = IsUntouched out
LeavesOut Absent out = IsUntouched out
LeavesOut (Config fault) out = IsUntouched out
LeavesOut (Script fault) out = IsUntouched out
LeavesOut (OpenMetrics line) out = IsUntouched out
LeavesOut ReadFault out = IsUntouched out
LeavesOut WriteFault out = ⊤
LeavesOut NoMemory out = IsUntouched out
LeavesOut TooLong out = IsUntouched out

-- the work was refused
pub record IsRefused (r : Refusal) (w : Work) : Type 0 where
  pub cause : IsCause r w
  pub shelf : LeavesShelf r w.shelf
  pub out : LeavesOut r w.out

-- the work was done
pub record IsDone (w : Work) : Type 0 where
  pub prints : Prints w
  pub shelf : IsUntouched w.shelf

abbrev pub WorkEnds : Result (Unit {0}) Refusal → Work → Type 0
WorkEnds (Ok u) w = IsDone w
WorkEnds (Err r) w = IsRefused r w

-- a message was tried: a front of it was added, and all of it where the sink counted no fault
pub record IsSaid (message : List ℕ) (err : Use SinkSeen) : Type 0 where
  pub front : AddsFront message err
  pub whole : ¬ Rose err.before.faults err.after.faults → Adds message err
  pub later : err.before.faults ≤ err.after.faults

-- the error stream speaks of a refusal, and of nothing else
abbrev pub Speaks : Result (Unit {0}) Refusal → List ℕ → Use SinkSeen → Type 0
Speaks (Ok u) file err = IsUntouched err
Speaks (Err r) file err = IsSaid (message_of file r) err

abbrev pub status_at : Result (Unit {0}) Refusal → ℕ
status_at (Ok u) = 0
status_at (Err r) = status_of r

-- the call ended with this status: its work was done or refused, and the error stream speaks of that
pub record Ended (status : ℕ) (c : Call) : Type 0 where
  pub end : Result (Unit {0}) Refusal
  pub status_is : status ≡ status_at end
  pub work_ends : WorkEnds end (work_of c)
  pub speaks : Speaks end (file_in c.words) c.err
