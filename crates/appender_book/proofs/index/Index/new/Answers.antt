use Rattle.appender_book.proofs.IndexLemmas.{no_entries}
use Rattle.appender_book.proofs.index.Index.new.Goals as goal

pub returns-clause-index : goal.returns-clause-index
returns-clause-index c =
    no_entries (record { verdicts = c.new.result; places = c.new-2.result; ends = c.new-3.result; earlier = c.new-4.result; next = c.new-5.result; last = c.new-6.result; latest = 0; hasher = c.args.hasher })
    c.new.ensures.items c.new-2.ensures.items c.new-3.ensures.items c.new-4.ensures.items c.new-6.ensures.empty
