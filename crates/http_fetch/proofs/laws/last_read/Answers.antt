use Rattle.http_fetch.proofs.SizeLemmas.{no-later}
use Rattle.http_fetch.proofs.laws.last_read.Goals as goal

pub returns : goal.returns
returns c = λ limit b more small long going. no-later limit b more small long going
