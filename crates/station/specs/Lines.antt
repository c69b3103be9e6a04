-- What a file of a control line gives.
use Rattle.std.specs.Prelude.{length}
use Rattle.journal_text.specs.Lines.{IsTextLength}
use Rattle.station.specs.declared.orders.FileAnswer.{FileAnswer}
use Rattle.station.specs.declared.orders.FileAnswer.TheVariants as found

-- the text of a file has at most 4 MiB
abbrev pub IsShortText : FileAnswer → Type 0
IsShortText (found.Text text) = IsTextLength (length text)
IsShortText (found.Refusal why) = Unit {0}
