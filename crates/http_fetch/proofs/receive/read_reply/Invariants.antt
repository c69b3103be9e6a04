use Rattle.outside.specs.Objects.{used}
use Rattle.http_fetch.specs.Links.{HasRead}
use Rattle.http_fetch.proofs.receive.read_reply.Given as goal

abbrev pub invariant-loop-read : goal.invariant-loop-read
invariant-loop-read g l = HasRead (used (g.L.Link.seen l.fn.link) (g.L.Link.seen l.link)) l.decoder l.fn.decoder.limit l.read
