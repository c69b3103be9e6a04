use Rattle.std.proofs.Common.{◌≡◌, ◌++◌, drop}
use Rattle.std.specs.Prelude.{string_bytes}
use Rattle.journal_text.specs.Lines.{numbers_text, worded}
use Rattle.journal_text.proofs.writing.worded.Given as goal

abbrev pub invariant-loop-number : goal.invariant-loop-number
invariant-loop-number l = string_bytes l.text ++ numbers_text (drop l.number-index l.numbers) ≡ worded l.word l.numbers
