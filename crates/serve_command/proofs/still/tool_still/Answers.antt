use Rattle.std.proofs.Common.{◌∙◌, [], ℕ, ap, map, refl, string_bytes, subst, sym}
use Rattle.std.specs.Prelude.{Some}
use Rattle.outside.specs.Objects.{used}
use Rattle.command_words.specs.Askings.{Serving}
use Rattle.scrape_commands.specs.Ends.{call}
use Rattle.scrape_commands.specs.Laws.{EndedStill}
use Rattle.scrape_commands.proofs.StillLemmas.{still_wanting}
use Rattle.serve_command.specs.Ends.{EndedServe}
use Rattle.serve_command.specs.Serves.{touched}
use Rattle.serve_command.proofs.EndLemmas.{same_serve, wanting}
use Rattle.serve_command.proofs.still.tool_still.Goals as goal

pub returns-in-Err-NoMemory-clause-still : goal.returns-in-Err-NoMemory-clause-still
returns-in-Err-NoMemory-clause-still g c =
    let it = call (map string_bytes c.args.words.now) (used (g.S.Shelf.seen c.args.shelf.now) (g.S.Shelf.seen c.args.shelf.now))
    (used (g.O.Sink.seen c.args.out.now) (g.O.Sink.seen c.args.out.now)) (used (g.E.Sink.seen c.args.err.now) (g.E.Sink.seen c.tell.new.err)) in
    λ _. subst (λ (x : ℕ). EndedStill x it) (sym c.status_at.ensures) (still_wanting it [] refl refl c.tell.ensures)

pub returns-in-Err-NoMemory-clause-served : goal.returns-in-Err-NoMemory-clause-served
returns-in-Err-NoMemory-clause-served g c =
    let shelf = g.S.Shelf.seen c.args.shelf.now in
    let out = g.O.Sink.seen c.args.out.now in
    let trail = g.R.Sink.seen c.args.trail.now in
    let control = g.C.Source.seen c.args.control.now in
    let t = touched (used shelf shelf) (used out out) (used trail trail) (used control control) in
    let err = used (g.E.Sink.seen c.args.err.now) (g.E.Sink.seen c.tell.new.err) in
    λ s is. subst (λ (x : ℕ). EndedServe x s t err) (sym c.status_at.ensures) (wanting s t err [] refl refl refl refl c.tell.ensures)

pub returns-in-Ok-Serve-clause-served : goal.returns-in-Ok-Serve-clause-served
returns-in-Ok-Serve-clause-served g c =
    let t = touched (used (g.S.Shelf.seen c.args.shelf.now) (g.S.Shelf.seen c.tool_serve.new.shelf))
    (used (g.O.Sink.seen c.args.out.now) (g.O.Sink.seen c.tool_serve.new.out))
    (used (g.R.Sink.seen c.args.trail.now) (g.R.Sink.seen c.tool_serve.new.trail))
    (used (g.C.Source.seen c.args.control.now) (g.C.Source.seen c.tool_serve.new.control)) in
    let err = used (g.E.Sink.seen c.args.err.now) (g.E.Sink.seen c.tool_serve.new.err) in
    λ s is. subst (λ (x : Serving). EndedServe c.tool_serve.result x t err)
    (same_serve c.in-Ok-Serve.asked s (sym (c.in-Ok-Serve.ensures.asked ∙ ap Some c.in-Ok-Serve.field-0-is) ∙ is)) c.tool_serve.ensures
