use Rattle.std.proofs.Common.{◌-◌, length}
use Rattle.outside.specs.Objects.{used}
use Rattle.status_server.specs.Steps.{ShelfStays, site}
use Rattle.status_server.proofs.StepLemmas.{Run}
use Rattle.status_server.proofs.connections.answer_all.Given as goal

abbrev pub invariant-loop-stop : goal.invariant-loop-stop
invariant-loop-stop g l = record {
  run : Run l.fn.server (site (g.S.Shelf.seen l.fn.shelf) l.fn.file) l.bytes l.len l.server (used (g.O.Sink.seen l.fn.sink) (g.O.Sink.seen l.sink));
  stays : ShelfStays (used (g.S.Shelf.seen l.fn.shelf) (g.S.Shelf.seen l.shelf));
}

abbrev pub decreases-loop-stop : goal.decreases-loop-stop
decreases-loop-stop g l = length l.bytes - l.len
