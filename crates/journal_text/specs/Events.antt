-- Events, their spelling, and what a journal is.
use Rattle.std.specs.Prelude.{ℕ, ◌≡◌, ◌≤◌, ◌<◌, ◌^◌, List, [], ◌∷◌, ◌++◌, length, All, Option, Some, None, unwrap_or, codes, ℤ}
use Rattle.std.specs.Str.{IsUtf8}
use Rattle.journal_text.specs.declared.events.Event.{Event}
use Rattle.journal_text.specs.declared.events.Event.TheVariants.{Load, Targets, Tick, Sweep, Finish, Halt}
use Rattle.outside.specs.declared.replies.Reply.{Reply}
use Rattle.outside.specs.declared.replies.Reply.TheVariants.{Body, Quoted, Lost, Garbled, Unsent, Oversize}
use Rattle.journal_text.specs.declared.lines.Line.{Line}
use Rattle.journal_text.specs.declared.lines.Line.TheVariants as line
use Rattle.journal_text.specs.Lines.{number, line_text, InRange}
use Rattle.journal_text.specs.Versions.{first_line}
use Rattle.journal_text.specs.declared.versions.Version.{Version}

-- when an event comes; a finish has no moment
abbrev pub moment_of : Event → Option ℕ
moment_of (Load moment text) = Some (number moment)
moment_of (Targets moment job file text) = Some (number moment)
moment_of (Tick moment life) = Some (number moment)
moment_of (Sweep moment) = Some (number moment)
moment_of (Finish ticket took reply) = None
moment_of (Halt moment) = Some (number moment)

-- the line of a finish
abbrev pub finish_line : ℕ → ℤ → Reply → Line
finish_line ticket took (Body status bytes) = line.Body took ticket status (length bytes)
finish_line ticket took (Quoted status bytes) = line.Quoted took ticket status (length bytes)
finish_line ticket took Lost = line.Lost took ticket
finish_line ticket took Garbled = line.Garbled took ticket
finish_line ticket took Unsent = line.Unsent took ticket
finish_line ticket took Oversize = line.Oversize took ticket

-- the line that an event begins with
abbrev pub line_of : Event → Line
line_of (Load moment text) = line.Load moment (length text)
line_of (Targets moment job file text) = line.Targets moment (length job) (length file) (length text)
line_of (Tick moment life) = line.Tick moment life
line_of (Sweep moment) = line.Sweep moment
line_of (Finish ticket took reply) = finish_line ticket took reply
line_of (Halt moment) = line.Halt moment

-- the body of a reply and a line feed
abbrev pub body_after : Reply → List ℕ
body_after (Body status bytes) = bytes ++ 10 ∷ []
body_after (Quoted status bytes) = bytes ++ 10 ∷ []
body_after Lost = []
body_after Garbled = []
body_after Unsent = []
body_after Oversize = []

-- what follows the line: the names and the text or body, and a line feed
abbrev pub rest_of : Event → List ℕ
rest_of (Load moment text) = text ++ 10 ∷ []
rest_of (Targets moment job file text) = job ++ (file ++ (text ++ 10 ∷ []))
rest_of (Tick moment life) = []
rest_of (Sweep moment) = []
rest_of (Finish ticket took reply) = body_after reply
rest_of (Halt moment) = []

-- an event as text
abbrev pub spelling : Event → List ℕ
spelling event = line_text (line_of event) ++ rest_of event

-- the events as text, one after another
abbrev pub events_text : List Event → List ℕ
events_text [] = []
events_text (e ∷ es) = spelling e ++ events_text es

-- a journal as text of a version
abbrev pub journal_text : Version → List Event → List ℕ
journal_text version es = first_line version ++ events_text es

-- the numbers and lengths of an event keep their limits
abbrev pub IsInLimits : Event → Type 0
IsInLimits event = InRange (line_of event)

-- its names are text
abbrev pub HasNames : Event → Type 0
HasNames (Load moment text) = Unit {0}
HasNames (Targets moment job file text) = IsUtf8 job × IsUtf8 file
HasNames (Tick moment life) = Unit {0}
HasNames (Sweep moment) = Unit {0}
HasNames (Finish ticket took reply) = Unit {0}
HasNames (Halt moment) = Unit {0}

-- the last moment, where `now` was the last one before the event
abbrev pub now_after : ℕ → Event → ℕ
now_after now event = unwrap_or (moment_of event) now

-- the last moment of events, where `now` was the last one before them
abbrev pub now_from : ℕ → List Event → ℕ
now_from now [] = now
now_from now (e ∷ es) = now_from (now_after now e) es

-- the last moment of a list of events, 0 before any
abbrev pub now_of : List Event → ℕ
now_of es = now_from 0 es

-- an event may follow where the last moment is `now`
abbrev pub MayFollow : ℕ → Event → Type 0
MayFollow now event = now ≤ now_after now event

-- moments never go back, from `now` on
abbrev pub IsInOrderFrom : ℕ → List Event → Type 0
IsInOrderFrom now [] = Unit {0}
IsInOrderFrom now (e ∷ es) = MayFollow now e × IsInOrderFrom (now_after now e) es

-- what a journal may be: each event keeps its limits, and moments never go back
pub record IsJournal (es : List Event) : Type 0 where
  pub limits : All IsInLimits es
  pub names : All HasNames es
  pub order : IsInOrderFrom 0 es

-- what contracts see of a journal: its events, and for how many more it has room
pub record JournalView : Type 0 where
  pub events : List Event
  pub spare : ℕ

-- what a journal keeps: its events are those of a journal, and the number beside them is the last moment
pub record IsKept (es : List Event) (last : ℕ) : Type 0 where
  pub journal : IsJournal es
  pub last_is : last ≡ now_of es
  pub small : last < 2 ^ 52
