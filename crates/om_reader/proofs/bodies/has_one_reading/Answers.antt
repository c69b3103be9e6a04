use Rattle.om_reader.proofs.LawLemmas.{has_one_reading}
use Rattle.om_reader.proofs.bodies.has_one_reading.Goals as goal

pub returns : goal.returns
returns c = has_one_reading
