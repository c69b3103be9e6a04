use Rattle.om_reader.proofs.PlainLemmas.{keeps_rows}
use Rattle.om_reader.proofs.bodies.keeps_rows.Goals as goal

pub returns : goal.returns
returns c = keeps_rows
