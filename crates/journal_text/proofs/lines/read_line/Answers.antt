use Rattle.journal_text.proofs.LineLemmas.{range_read}
use Rattle.journal_text.proofs.lines.read_line.Goals as goal

pub returns-clause-range : goal.returns-clause-range
returns-clause-range c = range_read c.args.version c.read_any_line.result c.args.bytes.now c.read_any_line.ensures
