-- What a text that was cut, or went wrong, still gives: the events before the first that isn't read.
use Rattle.std.specs.Prelude.{ℕ, ◌≡◌, ◌≢◌, All, List, ◌++◌, length, Option, Some, None}
use Rattle.journal_text.specs.declared.events.Event.{Event}
use Rattle.journal_text.specs.declared.faults.ScriptCause.{ScriptCause}
use Rattle.journal_text.specs.declared.faults.ScriptCause.TheVariants.{Header}
use Rattle.journal_text.specs.declared.faults.ScriptFault.{ScriptFault}
use Rattle.journal_text.specs.declared.faults.ScriptError.{ScriptError}
use Rattle.journal_text.specs.declared.faults.ScriptError.TheVariants.{Bad, NoMemory}
use Rattle.journal_text.specs.Events.{journal_text, now_of, IsJournal}
use Rattle.journal_text.specs.Versions.{first_line, HasEvent}
use Rattle.journal_text.specs.declared.versions.Version.{Version}
use Rattle.journal_text.specs.Faults.{EndsBy, IsJournalOf, IsOnlyFault, Spells}

-- the text is a journal's and then bytes that it doesn't go on with: none, or such as can't be its next event
pub record StopsBehind (bytes : List ℕ) (es : List Event) (rest : List ℕ) : Type 0 where
  pub version : Version
  pub end : Option ScriptCause
  pub journal : IsJournal es
  pub has : All (HasEvent version) es
  pub text : bytes ≡ journal_text version es ++ rest
  pub ends : EndsBy version (now_of es) rest end

-- one journal begins another
abbrev pub Begins : List Event → List Event → Type 0
Begins es fs = (later : List Event) × (fs ≡ es ++ later)

-- the front of a text, which has so many bytes more: no other journal is it, and it begins each journal whose text the bytes begin
pub record IsFrontOf (bytes : List ℕ) (es : List Event) (left : ℕ) : Type 0 where
  pub rest : List ℕ
  pub stops : StopsBehind bytes es rest
  pub left_is : left ≡ length rest
  pub only : (others : List Event) (more : List ℕ) → StopsBehind bytes others more → others ≡ es
  pub cut : (version : Version) (fs : List Event) (gone : List ℕ) → Spells version fs (bytes ++ gone) → Begins es fs

-- the fault of a text that begins with the first line of no version, which has no front
pub record IsHeadless (bytes : List ℕ) (fault : ScriptFault) : Type 0 where
  pub fault_is : fault ≡ record { offset = 0; cause = Header }
  pub lacks : (version : Version) (rest : List ℕ) → bytes ≢ first_line version ++ rest

-- a text has no front for this fault, or memory ran out
abbrev pub LacksHeader : List ℕ → ScriptError → Type 0
LacksHeader bytes (Bad fault) = IsHeadless bytes fault
LacksHeader bytes NoMemory = Unit {0}

-- where nothing is wrong behind the front of a text, it is the journal of the text
abbrev pub IsWrong : List ℕ → List Event → Option ScriptFault → Type 0
IsWrong bytes es None = IsJournalOf bytes es
IsWrong bytes es (Some fault) = IsOnlyFault bytes fault
