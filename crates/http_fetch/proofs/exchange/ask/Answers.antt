use Rattle.std.proofs.lemmas.Result.{IfOk-weaker}
use Rattle.outside.specs.Fetches.{IsReplyInLimits}
use Rattle.outside.specs.Objects.{used}
use Rattle.outside.specs.declared.replies.Reply.{Reply}
use Rattle.http_fetch.specs.Links.{SendsRequest}
use Rattle.http_fetch.proofs.SendLemmas.{at-ok, sends}
use Rattle.http_fetch.proofs.exchange.ask.Goals as goal

pub returns-clause-sent : goal.returns-clause-sent
returns-clause-sent g c =
    let a = g.L.Link.seen c.args.link.now in
    let e = g.L.Link.seen c.receive.new.link in
    IfOk-weaker c.receive.result (λ (r : Reply). IsReplyInLimits r) (λ (r : Reply). SendsRequest c.args.request.now r (used a e))
    (λ r _. sends c.args.request.now c.args.text.now r a (g.L.Link.seen c.dial.new.self) (g.L.Link.seen c.send.new.link) e c.requires.text
    (at-ok c.dial.result c.if-is_err.ensures.value c.dial.ensures.dialled) (at-ok c.send.result c.if-is_err-2.ensures.value c.send.ensures.sent) c.receive.ensures.sent)
    c.receive.ensures.limits
