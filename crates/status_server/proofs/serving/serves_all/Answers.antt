use Rattle.status_server.proofs.WholeLemmas.{serves-all}
use Rattle.status_server.proofs.serving.serves_all.Goals as goal

pub returns : goal.returns
returns c = serves-all
