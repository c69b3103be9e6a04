use Rattle.std.proofs.Common.{List, [], subst, sym, arith}
use Rattle.std.proofs.lemmas.Option.{none-some}
use Rattle.report_samples.specs.declared.entries.Entry.{Entry}
use Rattle.appender_book.specs.Index.{IsIndex}
use Rattle.appender_book.specs.Series.{AreShort}
use Rattle.appender_book.proofs.book.Book.hashed.Goals as goal

pub invariant_of-result : goal.invariant_of-result
invariant_of-result c =
    let none : AreShort 0 [] = λ k e at. absurd (none-some e at) in
    (subst (λ (es : List Entry). IsIndex es c.new-2.result) (sym c.new.ensures.items) c.new-2.ensures.index, omega arith, c.new-2.ensures.room, subst (AreShort 0) (sym c.new.ensures.items) none)
