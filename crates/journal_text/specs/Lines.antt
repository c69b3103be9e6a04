-- The lines of a journal's text, which is a format of this project's own:
-- a word, then numbers in decimal with no sign and no leading zero, each behind one blank, then a line feed.
use Rattle.std.specs.Prelude.{ℕ, ◌<◌, ◌≤◌, ◌^◌, List, [], ◌∷◌, ◌++◌, codes, ℤ, pos, negsuc}
use Rattle.std.specs.Fmt.{decimal}
pub use Rattle.value_text.specs.Numbers.{number}
use Rattle.outside.specs.Sizes.{most_name_bytes, most_text_bytes, most_body_bytes}
use Rattle.journal_text.specs.declared.lines.Line.{Line}
use Rattle.journal_text.specs.declared.lines.Line.TheVariants.{Load, Targets, Tick, Sweep, Body, Quoted, Lost, Garbled, Unsent, Oversize, Halt}

-- the numbers in decimal, each behind a blank, and the line feed that ends the line
abbrev pub numbers_text : List ℕ → List ℕ
numbers_text [] = 10 ∷ []
numbers_text (n ∷ ns) = 32 ∷ (decimal n ++ numbers_text ns)

-- a line: its word and its numbers
abbrev pub worded : List ℕ → List ℕ → List ℕ
worded word numbers = word ++ numbers_text numbers

-- the table of lines
abbrev pub line_text : Line → List ℕ
line_text (Load moment len) = worded (codes "load") (number moment ∷ len ∷ [])
line_text (Targets moment job file len) = worded (codes "targets") (number moment ∷ job ∷ file ∷ len ∷ [])
line_text (Tick moment life) = worded (codes "tick") (number moment ∷ life ∷ [])
line_text (Sweep moment) = worded (codes "sweep") (number moment ∷ [])
line_text (Body took ticket status len) = worded (codes "body") (number took ∷ ticket ∷ status ∷ len ∷ [])
line_text (Quoted took ticket status len) = worded (codes "quoted") (number took ∷ ticket ∷ status ∷ len ∷ [])
line_text (Lost took ticket) = worded (codes "lost") (number took ∷ ticket ∷ [])
line_text (Garbled took ticket) = worded (codes "garbled") (number took ∷ ticket ∷ [])
line_text (Unsent took ticket) = worded (codes "unsent") (number took ∷ ticket ∷ [])
line_text (Oversize took ticket) = worded (codes "oversize") (number took ∷ ticket ∷ [])
line_text (Halt moment) = worded (codes "halt") (number moment ∷ [])

-- from 0 to 2^52 - 1 milliseconds
abbrev pub IsMoment : ℤ → Type 0
IsMoment (pos n) = n < 2 ^ 52
IsMoment (negsuc n) = ⊥

-- how long the name of a job or of a file may be, in bytes
abbrev pub IsNameLength : ℕ → Type 0
IsNameLength n = (1 ≤ n) × (n ≤ most_name_bytes)

-- how long a configuration or the list of a file may be
abbrev pub IsTextLength : ℕ → Type 0
IsTextLength n = n ≤ most_text_bytes

-- a status code of three digits
abbrev pub IsStatus : ℕ → Type 0
IsStatus n = (100 ≤ n) × (n ≤ 999)

-- how long a body may be
abbrev pub IsBodyLength : ℕ → Type 0
IsBodyLength n = n ≤ most_body_bytes

-- a number of 64 bits
abbrev pub IsWord : ℕ → Type 0
IsWord n = n < 2 ^ 64

-- each number of the line keeps its limits
abbrev pub InRange : Line → Type 0
InRange (Load moment len) = IsMoment moment × IsTextLength len
InRange (Targets moment job file len) = IsMoment moment × IsNameLength job × IsNameLength file × IsTextLength len
InRange (Tick moment life) = IsMoment moment × IsWord life
InRange (Sweep moment) = IsMoment moment
InRange (Body took ticket status len) = IsMoment took × IsWord ticket × IsStatus status × IsBodyLength len
InRange (Quoted took ticket status len) = IsMoment took × IsWord ticket × IsStatus status × IsBodyLength len
InRange (Lost took ticket) = IsMoment took × IsWord ticket
InRange (Garbled took ticket) = IsMoment took × IsWord ticket
InRange (Unsent took ticket) = IsMoment took × IsWord ticket
InRange (Oversize took ticket) = IsMoment took × IsWord ticket
InRange (Halt moment) = IsMoment moment
