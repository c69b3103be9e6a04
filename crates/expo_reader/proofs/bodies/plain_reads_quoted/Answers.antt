use Rattle.expo_reader.proofs.FormLemmas.{plain_reads_quoted}
use Rattle.expo_reader.proofs.bodies.plain_reads_quoted.Goals as goal

pub returns : goal.returns
returns c = plain_reads_quoted
