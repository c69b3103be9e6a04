use Rattle.journal_text.proofs.ReadingLemmas.{headless_refused}
use Rattle.journal_text.proofs.reading.read_journal.Goals as goal

pub returns-in-Err-clause-refused : goal.returns-in-Err-clause-refused
returns-in-Err-clause-refused c = headless_refused c.args.bytes.now c.in-Err.error c.in-Err.ensures.refused
