use Rattle.std.proofs.Common.{arith}
use Rattle.book_text.proofs.KeptLemmas.{ready_of}
use Rattle.book_text.proofs.lines.Lines.of.Goals as goal

pub returns-clause-ready : goal.returns-clause-ready
returns-clause-ready c =
    ready_of c.args.book.now.entries _ c.longest_value-value.result c.in_ok-texts.ensures c.in_ok-new.ensures c.longest_value-value.ensures (omega arith)
