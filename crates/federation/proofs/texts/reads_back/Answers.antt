use Rattle.federation.proofs.ReadingLemmas.{reads_back as law}
use Rattle.federation.proofs.texts.reads_back.Goals as goal

pub returns : goal.returns
returns c = law
