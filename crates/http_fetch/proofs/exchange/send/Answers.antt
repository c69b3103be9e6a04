use Rattle.std.proofs.Common.{◌≡◌, ◌==◌, true, arith, length}
use Rattle.std.proofs.lemmas.Bool.Decides.{nat_tests}
use Rattle.std.proofs.lemmas.List.{nil_from_length}
use Rattle.std.proofs.lemmas.Result.{MatchResult-from_err}
use Rattle.outside.specs.Objects.{used}
use Rattle.http_fetch.specs.Links.{SentFront}
use Rattle.http_fetch.proofs.SendLemmas.{sent-none, sent-more, sent-all, sent-front}
use Rattle.http_fetch.proofs.exchange.send.Goals as goal

pub loop-rest-init : goal.loop-rest-init
loop-rest-init g c = sent-none c.args.text.now (g.L.Link.seen c.args.link.now)

pub returns-in_err-count-clause-failed : goal.returns-in_err-count-clause-failed
returns-in_err-count-clause-failed g c =
    MatchResult-from_err c.from_residual.result (λ _. Unit {0}) (λ _. SentFront c.args.text.now (used (g.L.Link.seen c.args.link.now) (g.L.Link.seen c.write.new.self))) c.from_residual.ensures.0
    (λ _. sent-front c.args.text.now c.loop-rest.rest.now (g.L.Link.seen c.args.link.now) (g.L.Link.seen c.loop-rest.link) (g.L.Link.seen c.write.new.self) c.loop-rest.invariant c.in_err-count.ensures.failed)

pub loop-rest-preserved : goal.loop-rest-preserved
loop-rest-preserved g c =
    rw c.behind-rest.ensures (sent-more c.args.text.now c.loop-rest.rest.now (g.L.Link.seen c.args.link.now) (g.L.Link.seen c.loop-rest.link) (g.L.Link.seen c.write.new.self) c.in_ok-count.count c.loop-rest.invariant c.in_ok-count.ensures.took)

pub returns-clause-sent : goal.returns-clause-sent
returns-clause-sent g c =
    let tested : true ≡ (length c.loop-rest.rest.now == 0) = c.loop-rest-test.ensures in
    let none : length c.loop-rest.rest.now ≡ 0 = grind (arith, nat_tests, tested) in
    sent-all c.args.text.now c.loop-rest.rest.now (g.L.Link.seen c.args.link.now) (g.L.Link.seen c.loop-rest.link) c.loop-rest.invariant (nil_from_length c.loop-rest.rest.now none)
