use Rattle.http_fetch.proofs.ReplyLemmas.{one-reply}
use Rattle.http_fetch.proofs.laws.one_reply.Goals as goal

pub returns : goal.returns
returns c = λ b limit r s x y. one-reply limit b r s x y
