-- Where a text that is no journal's has its fault, by whole events, and what reading a text answers.
use Rattle.std.specs.Prelude.{ℕ, ◌≡◌, ◌≢◌, ◌<◌, All, List, [], ◌++◌, length, Option, Some, None, Result, Err}
use Rattle.journal_text.specs.declared.lines.Line.{Line}
use Rattle.journal_text.specs.declared.events.Event.{Event}
use Rattle.journal_text.specs.declared.faults.ScriptCause.{ScriptCause}
use Rattle.journal_text.specs.declared.faults.ScriptCause.TheVariants.{Header, Line as LineCause, Rest, Order}
use Rattle.journal_text.specs.declared.faults.ScriptFault.{ScriptFault}
use Rattle.journal_text.specs.declared.faults.ScriptError.{ScriptError}
use Rattle.journal_text.specs.declared.faults.ScriptError.TheVariants.{Bad, NoMemory}
use Rattle.journal_text.specs.Lines.{line_text, InRange}
use Rattle.journal_text.specs.Versions.{first_line, HasEvent, HasLine}
use Rattle.journal_text.specs.declared.versions.Version.{Version}
use Rattle.journal_text.specs.Events.{spelling, journal_text, IsInLimits, HasNames, now_after, now_of, IsJournal}

-- a line that the version has begins here, ended and with its numbers in range
abbrev pub BeginsLine : Version → List ℕ → Type 0
BeginsLine version bytes = (line : Line) × (rest : List ℕ) × HasLine version line × InRange line × (bytes ≡ line_text line ++ rest)

-- an event begins here: its line, its content and the line feed behind that, with names that are text
abbrev pub BeginsEvent : Version → List ℕ → Type 0
BeginsEvent version bytes = (e : Event) × (rest : List ℕ) × HasEvent version e × IsInLimits e × HasNames e × (bytes ≡ spelling e ++ rest)

-- an event begins here whose moment is before `now`
abbrev pub BeginsEarlier : Version → ℕ → List ℕ → Type 0
BeginsEarlier version now bytes =
    (e : Event) × (rest : List ℕ) × HasEvent version e × IsInLimits e × HasNames e
    × (bytes ≡ spelling e ++ rest) × (now_after now e < now)

-- the text of a journal ends at the offset, more follows, and no event of that journal can begin there, for this reason
pub record FailsAt (bytes : List ℕ) (offset : ℕ) (Why : Version → ℕ → List ℕ → Type 0) : Type 0 where
  pub version : Version
  pub events : List Event
  pub rest : List ℕ
  pub journal : IsJournal events
  pub has : All (HasEvent version) events
  pub text : bytes ≡ journal_text version events ++ rest
  pub offset_is : offset ≡ length (journal_text version events)
  pub more : rest ≢ []
  pub fails : Why version (now_of events) rest

-- why no event can begin here, where the last moment is `now`: no line does; or a line does, but not as many bytes as it
-- announces with a line feed behind them, or names that aren't text; or a whole event does, whose moment goes back
abbrev pub Fails : ScriptCause → Version → ℕ → List ℕ → Type 0
Fails Header version now rest = ⊥
Fails LineCause version now rest = ¬ BeginsLine version rest
Fails Rest version now rest = BeginsLine version rest × (¬ BeginsEvent version rest)
Fails Order version now rest = BeginsEarlier version now rest

-- how bytes go on behind whole events, where the last moment is `now`: not at all, or with what can't be an event, for this reason
unfoldable pub EndsBy : Version → ℕ → List ℕ → Option ScriptCause → Type 0
EndsBy version now rest None = rest ≡ []
EndsBy version now rest (Some c) = (rest ≢ []) × Fails c version now rest

-- the text begins with the first line of no version, which is a fault at 0, or no event can begin behind a journal's text
abbrev pub IsFaultBy : ScriptCause → List ℕ → ℕ → Type 0
IsFaultBy Header bytes offset = (offset ≡ 0) × ((version : Version) (rest : List ℕ) → bytes ≢ first_line version ++ rest)
IsFaultBy LineCause bytes offset = FailsAt bytes offset (Fails LineCause)
IsFaultBy Rest bytes offset = FailsAt bytes offset (Fails Rest)
IsFaultBy Order bytes offset = FailsAt bytes offset (Fails Order)

-- the fault of a text
abbrev pub IsFault : List ℕ → ScriptFault → Type 0
IsFault bytes fault = IsFaultBy fault.cause bytes fault.offset

-- a journal has this text in a version
pub record Spells (version : Version) (es : List Event) (bytes : List ℕ) : Type 0 where
  pub journal : IsJournal es
  pub has : All (HasEvent version) es
  pub text : journal_text version es ≡ bytes

-- no journal has this text
abbrev pub SpellsNone : List ℕ → Type 0
SpellsNone bytes = (version : Version) (es : List Event) → ¬ (Spells version es bytes)

-- the journal of a text: it has this text in one version, and is the only one, and the text has no fault
pub record IsJournalOf (bytes : List ℕ) (es : List Event) : Type 0 where
  pub version : Version
  pub spells : Spells version es bytes
  pub only : (other : Version) (others : List Event) → Spells other others bytes → (other ≡ version) × (others ≡ es)
  pub sound : (fault : ScriptFault) → ¬ IsFault bytes fault

-- the one fault of a text, which is no journal's
pub record IsOnlyFault (bytes : List ℕ) (fault : ScriptFault) : Type 0 where
  pub fault_is : IsFault bytes fault
  pub only : (other : ScriptFault) → IsFault bytes other → other ≡ fault
  pub none : SpellsNone bytes

-- a text was refused for its fault, or memory ran out
abbrev pub Refuses : List ℕ → ScriptError → Type 0
Refuses bytes (Bad fault) = IsOnlyFault bytes fault
Refuses bytes NoMemory = Unit {0}

-- an event wasn't read at an offset for what was said, or memory ran out
abbrev pub StopsFor : ℕ → Result (Event × List ℕ) ScriptCause → ScriptError → Type 0
StopsFor offset said (Bad fault) = (fault.offset ≡ offset) × (said ≡ Err fault.cause)
StopsFor offset said NoMemory = Unit {0}
