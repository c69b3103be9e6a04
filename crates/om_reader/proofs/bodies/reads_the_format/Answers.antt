use Rattle.om_reader.proofs.LawLemmas.{reads_the_format}
use Rattle.om_reader.proofs.bodies.reads_the_format.Goals as goal

pub returns : goal.returns
returns c = reads_the_format
