use Rattle.std.proofs.Common.{length}
use Rattle.outside.specs.Objects.{used}
use Rattle.http_fetch.specs.Links.{HasSent}
use Rattle.http_fetch.proofs.exchange.send.Given as goal

abbrev pub invariant-loop-rest : goal.invariant-loop-rest
invariant-loop-rest g l = HasSent l.text l.rest (used (g.L.Link.seen l.fn.link) (g.L.Link.seen l.link))

abbrev pub decreases-loop-rest : goal.decreases-loop-rest
decreases-loop-rest g l = length l.rest
