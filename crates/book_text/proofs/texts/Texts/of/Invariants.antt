use Rattle.appender_book.specs.Series.{series_of}
use Rattle.book_text.specs.Kept.{AreTexts}
use Rattle.book_text.proofs.texts.Texts.of.Given as goal

abbrev pub invariant-loop-number : goal.invariant-loop-number
invariant-loop-number l = AreTexts l.number (series_of l.book.entries) l.texts
