use Rattle.std.proofs.Common.{[]}
use Rattle.std.proofs.lemmas.Result.{IfOk-weaker}
use Rattle.http_fetch.proofs.decoder.decode.Goals as goal

pub returns-clause-reply : goal.returns-clause-reply
returns-clause-reply c =
    IfOk-weaker c.end.result _ _ (λ r h. h c.args.limit c.args.bytes.now (c.in_ok-feed.ensures.stands c.args.limit [] c.in_ok-decoder.ensures)) c.end.ensures.reply

pub returns-clause-only : goal.returns-clause-only
returns-clause-only c =
    IfOk-weaker c.end.result _ _ (λ r h. h c.args.limit c.args.bytes.now (c.in_ok-feed.ensures.stands c.args.limit [] c.in_ok-decoder.ensures)) c.end.ensures.only
