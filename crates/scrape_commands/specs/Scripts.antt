-- What a script stands for, and what is said of one that stands for nothing.
use Rattle.std.specs.Prelude.{◌≡◌, ◌≢◌, ℕ, Bool, true, false, List, ◌++◌, codes, Option, Some, None}
use Rattle.std.specs.Fmt.{decimal}
use Rattle.journal_text.specs.declared.faults.ScriptCause.{ScriptCause}
use Rattle.journal_text.specs.declared.faults.ScriptCause.TheVariants.{Header, Line, Rest, Order}
use Rattle.journal_text.specs.declared.faults.ScriptFault.{ScriptFault}
use Rattle.journal_text.specs.declared.faults.ScriptError.{ScriptError}
use Rattle.journal_text.specs.declared.faults.ScriptError.TheVariants.{Bad, NoMemory}
use Rattle.journal_text.specs.declared.events.Event.{Event}
use Rattle.journal_text.specs.Versions.{first_line}
use Rattle.journal_text.specs.declared.versions.Version.{Version}
use Rattle.journal_text.specs.Faults.{IsFault, IsJournalOf, IsOnlyFault, Spells, SpellsNone}
use Rattle.journal_text.specs.Fronts.{IsFrontOf, IsHeadless}
use Rattle.command_words.specs.declared.words.Command.{Command}
use Rattle.command_words.specs.declared.words.Command.TheVariants.{Replay, Check, Convert, At}

-- whether the script that a command reads may have been cut; none where it reads no script
abbrev pub cut_of : Command → Option Bool
cut_of (Replay cut) = Some cut
cut_of Check = None
cut_of Convert = None
cut_of (At i) = Some false

-- the journal that a script stands for: the one that it spells, or with `--cut` the one of the events before the first that isn't read
abbrev pub IsScriptOf : Bool → List ℕ → List Event → Type 0
IsScriptOf false bytes journal = IsJournalOf bytes journal
IsScriptOf true bytes journal = (left : ℕ) × IsFrontOf bytes journal left

-- the fault of one that stands for none: its only one, or with `--cut` that it begins with the first line of no version
abbrev pub IsFaultOf : Bool → List ℕ → ScriptFault → Type 0
IsFaultOf false bytes fault = IsOnlyFault bytes fault
IsFaultOf true bytes fault = IsHeadless bytes fault

-- the same of the script that a command reads
abbrev pub HasScriptFault : Command → List ℕ → ScriptFault → Type 0
HasScriptFault command bytes fault = (cut : Bool) × (cut_of command ≡ Some cut) × IsFaultOf cut bytes fault

-- a script was refused for its fault, or memory ran out
abbrev pub RefusesScript : Bool → List ℕ → ScriptError → Type 0
RefusesScript cut bytes (Bad fault) = IsFaultOf cut bytes fault
RefusesScript cut bytes NoMemory = Unit {0}

-- a script stands for a journal
abbrev pub StandsFor : Bool → List ℕ → Type 0
StandsFor false bytes = (version : Version) × (journal : List Event) × Spells version journal bytes
StandsFor true bytes = (version : Version) × (rest : List ℕ) × (bytes ≡ first_line version ++ rest)

-- it stands for none
abbrev pub StandsForNone : Bool → List ℕ → Type 0
StandsForNone false bytes = SpellsNone bytes
StandsForNone true bytes = (version : Version) (rest : List ℕ) → bytes ≢ first_line version ++ rest

-- it has this fault
abbrev pub HasFault : Bool → List ℕ → ScriptFault → Type 0
HasFault false bytes fault = IsFault bytes fault
HasFault true bytes fault = IsHeadless bytes fault

-- the word of a cause
abbrev pub cause_word : ScriptCause → List ℕ
cause_word Header = codes "Header"
cause_word Line = codes "Line"
cause_word Rest = codes "Rest"
cause_word Order = codes "Order"

-- the message of a fault: its cause, and where it stands, in bytes from the start
abbrev pub fault_message : ScriptFault → List ℕ
fault_message fault = codes "scrape: script " ++ (cause_word fault.cause ++ (codes " at " ++ (decimal fault.offset ++ codes "\n")))
