use Rattle.std.proofs.Common.{ℕ, Ok, ap, arith, length, ◌≡◌, ◌++◌}
use Rattle.std.proofs.lemmas.Result.{IfOk-weaker}
use Rattle.http_fetch.proofs.ReplyLemmas.{http-limits}
use Rattle.http_fetch.proofs.ReceiveLemmas.{of-room, none-of-room, len-of-room, read-none, read-more, reply-end, reply-done, reply-last}
use Rattle.http_fetch.proofs.receive.read_reply.Goals as goal

pub loop-read-init : goal.loop-read-init
loop-read-init g c = read-none (g.L.Link.seen c.args.link.now) c.args.decoder c.args.decoder.limit c.requires.stands

pub returns-then-count-eq0-clause-reply : goal.returns-then-count-eq0-clause-reply
returns-then-count-eq0-clause-reply g c =
    let r = c.loop-read.invariant in
    let a = g.L.Link.seen c.args.link.now in
    let m = g.L.Link.seen c.loop-read.link in
    let e = g.L.Link.seen c.read.new.self in
    let gave = none-of-room m e c.in-Ok.count c.read.new.room c.if-count-eq0.true c.in-Ok.ensures.gave in
    IfOk-weaker c.end.result _ _
    (λ reply h. reply-end a m e c.loop-read.decoder c.args.decoder.limit c.loop-read.read reply r gave
    (c.in-Ok.ensures.end (ap (λ (n : ℕ). Ok n) c.if-count-eq0.true)) (h c.args.decoder.limit r.bytes r.stands))
    c.end.ensures.reply

pub returns-then-count-eq0-clause-limits : goal.returns-then-count-eq0-clause-limits
returns-then-count-eq0-clause-limits g c =
    let r = c.loop-read.invariant in
    IfOk-weaker c.end.result _ _ (λ reply h. http-limits r.bytes c.args.decoder.limit reply c.requires.limit (h c.args.decoder.limit r.bytes r.stands)) c.end.ensures.reply

pub returns-in-Done-clause-reply : goal.returns-in-Done-clause-reply
returns-in-Done-clause-reply g c =
    let r = c.loop-read.invariant in
    let a = g.L.Link.seen c.args.link.now in
    let m = g.L.Link.seen c.loop-read.link in
    let e = g.L.Link.seen c.read.new.self in
    let gave = of-room m e c.in-Ok.count c.read.new.room c.front.result.now c.front.ensures c.in-Ok.ensures.gave in
    IfOk-weaker c.end-in-Done.result _ _
    (λ reply h. reply-done a m e c.loop-read.decoder c.args.decoder.limit c.loop-read.read c.front.result.now reply r gave
    (h c.args.decoder.limit (r.bytes ++ c.front.result.now) (c.in_ok-feed.ensures.stands c.args.decoder.limit r.bytes r.stands))
    (c.in_ok-feed.ensures.done (ap (λ x. Ok x) c.in-Done.is) c.args.decoder.limit r.bytes r.stands))
    c.end-in-Done.ensures.reply

pub returns-in-Done-clause-limits : goal.returns-in-Done-clause-limits
returns-in-Done-clause-limits g c =
    let r = c.loop-read.invariant in
    IfOk-weaker c.end-in-Done.result _ _
    (λ reply h. http-limits (r.bytes ++ c.front.result.now) c.args.decoder.limit reply c.requires.limit
    (h c.args.decoder.limit (r.bytes ++ c.front.result.now) (c.in_ok-feed.ensures.stands c.args.decoder.limit r.bytes r.stands)))
    c.end-in-Done.ensures.reply

pub loop-read-preserved : goal.loop-read-preserved
loop-read-preserved g c =
    let r = c.loop-read.invariant in
    let a = g.L.Link.seen c.args.link.now in
    let m = g.L.Link.seen c.loop-read.link in
    let e = g.L.Link.seen c.read.new.self in
    let gave = of-room m e c.in-Ok.count c.read.new.room c.front.result.now c.front.ensures c.in-Ok.ensures.gave in
    let len : length c.front.result.now ≡ c.in-Ok.count = len-of-room c.in-Ok.count c.read.new.room c.front.result.now c.front.ensures c.in-Ok.ensures.within in
    read-more a m e c.loop-read.decoder c.feed.new.self c.args.decoder.limit c.loop-read.read c.front.result.now r gave
    (omega (arith, len, c.if-count-eq0.false))
    (c.in_ok-feed.ensures.stands c.args.decoder.limit r.bytes r.stands)
    (c.in_ok-feed.ensures.more (ap (λ x. Ok x) c.in-More.is) c.args.decoder.limit r.bytes r.stands)

pub returns-clause-reply : goal.returns-clause-reply
returns-clause-reply g c =
    reply-last (g.L.Link.seen c.args.link.now) (g.L.Link.seen c.loop-read.link) c.loop-read.decoder c.args.decoder.limit c.loop-read.read c.loop-read.invariant c.requires.limit c.loop-read-test.false
