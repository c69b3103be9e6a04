use Rattle.std.proofs.Common.{◌≡◌, ◌≤◌, vec_len}
use Rattle.outside.specs.Objects.{used}
use Rattle.status_server.specs.Serving.{touched}
use Rattle.status_server.proofs.ServeLemmas.{Has}
use Rattle.status_server.proofs.serving.serve_all.Given as goal

abbrev pub invariant-loop : goal.invariant-loop
invariant-loop g l = record {
  room : vec_len l.room ≡ 65536;
  reads : l.counter ≤ l.given;
  has : Has l.fn.server l.fn.file l.given l.waiting.items l.server (touched (used (g.S.Shelf.seen l.fn.shelf) (g.S.Shelf.seen l.shelf)) (used (g.C.Source.seen l.fn.source) (g.C.Source.seen l.source)) (used (g.O.Sink.seen l.fn.sink) (g.O.Sink.seen l.sink)));
}
