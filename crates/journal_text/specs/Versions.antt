-- The versions of a journal's text: the second has one line more, of a finish whose body may have names in quotes.
use Rattle.std.specs.Prelude.{◌≡◌, ℕ, List, [], ◌∷◌, ◌++◌, codes}
use Rattle.outside.specs.declared.replies.Reply.{Reply}
use Rattle.outside.specs.declared.replies.Reply.TheVariants as reply
use Rattle.journal_text.specs.declared.events.Event.{Event}
use Rattle.journal_text.specs.declared.events.Event.TheVariants.{Load, Targets, Tick, Sweep, Finish, Halt}
use Rattle.journal_text.specs.declared.lines.Line.{Line}
use Rattle.journal_text.specs.declared.lines.Line.TheVariants as line
use Rattle.journal_text.specs.declared.versions.Version.{Version}
use Rattle.journal_text.specs.declared.versions.Version.TheVariants.{One, Two}

-- the first line of a text
abbrev pub first_line : Version → List ℕ
first_line One = codes "scrape-journal 1" ++ 10 ∷ []
first_line Two = codes "scrape-journal 2" ++ 10 ∷ []

-- the version has the line
abbrev pub HasLine : Version → Line → Type 0
HasLine version (line.Quoted took ticket status len) = version ≡ Two
HasLine version _ = Unit {0}

-- it has the reply of a finish
abbrev pub HasReply : Version → Reply → Type 0
HasReply version (reply.Quoted status bytes) = version ≡ Two
HasReply version _ = Unit {0}

-- it has the event
abbrev pub HasEvent : Version → Event → Type 0
HasEvent version (Finish ticket took reply) = HasReply version reply
HasEvent version _ = Unit {0}
