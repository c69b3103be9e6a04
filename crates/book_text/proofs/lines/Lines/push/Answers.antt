use Rattle.std.proofs.Common.{sym}
use Rattle.book_text.proofs.KeptLemmas.{text_of}
use Rattle.book_text.proofs.lines.Lines.push.Goals as goal

pub push_entry-requires-clause-series : goal.push_entry-requires-clause-series
push_entry-requires-clause-series c =
    text_of c.args.book.now.entries c.args.self.now c.number_at-number.result c.in-Some.entry.now.series c.requires (c.number_at-number.ensures c.in-Some.entry.now (sym c.in-Some.ensures))
