use Rattle.federation_laws.proofs.ReadLemmas.{reads}
use Rattle.federation_laws.proofs.laws.federation_reads.Goals as goal

pub returns : goal.returns
returns c = reads c.reads_back.ensures c.series_have_names.ensures c.labels_have_names.ensures
