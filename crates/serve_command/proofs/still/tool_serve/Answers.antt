use Rattle.std.proofs.Common.{◌≡◌, ◌∙◌, rules}
use Rattle.outside.specs.Objects.{used}
use Rattle.scrape_commands.specs.Ends.{Speaks, status_at}
use Rattle.serve_command.specs.Ends.{file_said, refusal_of}
use Rattle.serve_command.specs.Serves.{touched}
use Rattle.serve_command.proofs.EndLemmas.{ended}
use Rattle.serve_command.proofs.still.tool_serve.Goals as goal

pub returns : goal.returns
returns g c =
    let end = c.serve_script-end.result in
    let err = used (g.E.Sink.seen c.args.err.now) (g.E.Sink.seen c.tell.new.err) in
    let t = touched (used (g.S.Shelf.seen c.args.shelf.now) (g.S.Shelf.seen c.serve_script-end.new.shelf))
    (used (g.O.Sink.seen c.args.out.now) (g.O.Sink.seen c.serve_script-end.new.out))
    (used (g.R.Sink.seen c.args.trail.now) (g.R.Sink.seen c.serve_script-end.new.trail))
    (used (g.C.Source.seen c.args.control.now) (g.C.Source.seen c.serve_script-end.new.control)) in
    let is : c.status_at.result ≡ status_at (refusal_of end) = c.status_at.ensures ∙ search rules in
    let speaks : Speaks (refusal_of end) (file_said end c.args.asked.now.script) err = search rules in
    ended c.args.asked.now t c.serves_all.ensures end c.status_at.result err is c.serve_script-end.ensures speaks
