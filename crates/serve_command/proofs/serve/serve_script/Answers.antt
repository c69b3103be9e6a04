use Rattle.std.proofs.Common.{subst}
use Rattle.outside.specs.Objects.{ShelfSeen, used}
use Rattle.command_words.specs.Askings.{Serving, serving}
use Rattle.status_server.specs.Serving as server
use Rattle.status_server.specs.Serving.{Serves}
use Rattle.serve_command.specs.Serves.{Ends, touched}
use Rattle.serve_command.proofs.ServeLemmas.{ends}
use Rattle.serve_command.proofs.serve.serve_script.Goals as goal

pub returns : goal.returns
returns g c =
    let before = g.S.Shelf.seen c.args.shelf.now in
    let after = g.S.Shelf.seen c.serve-end.new.shelf in
    let out = used (g.O.Sink.seen c.args.out.now) (g.O.Sink.seen c.serve-end.new.sink) in
    let trail = used (g.R.Sink.seen c.args.trail.now) (g.R.Sink.seen c.finish-ended.new.trail) in
    let control = used (g.C.Source.seen c.args.control.now) (g.C.Source.seen c.serve-end.new.source) in
    let t = touched (used before after) out trail control in
    let s : Serving = serving c.asked.inside.script.now c.asked.inside.file.now in
    let end = c.serve-end.result.end in
    let core = c.serve-end.result.core in
    subst (λ (x : Serving). Ends c.finish-ended.result x t) c.asked.view_is
    (ends s t core end c.finish-ended.result
    (record {
      journal = c.in-Ok.core;
      replayed = c.in-Ok.ensures.core;
      serves = subst (λ (x : ShelfSeen). Serves end c.in-Ok.core s.file (server.touched (used x after) control out) core) c.in-Ok.ensures.untouched c.serve-end.ensures;
    })
    c.finish-ended.ensures)
