use Rattle.std.proofs.Common.{◌≡◌, ◌∙◌, [], List, ℕ, ap, map, refl, string_bytes, subst, sym}
use Rattle.std.specs.Prelude.{Some, IfSome}
use Rattle.outside.specs.Objects.{used}
use Rattle.live_run.specs.Runs.{IsReadOnce, outputs, touched}
use Rattle.station.specs.Control.{caller_use}
use Rattle.scrape_commands.specs.Ends.{call}
use Rattle.scrape_commands.specs.Laws.{EndedStill}
use Rattle.scrape_commands.proofs.StillLemmas.{still_wanting}
use Rattle.serve_command.specs.Ends.{EndedServe}
use Rattle.serve_command.specs.Serves as serving
use Rattle.serve_command.proofs.EndLemmas.{wanting}
use Rattle.scrape_cli.specs.Lives.{EndedLive}
use Rattle.command_words.specs.Askings.{Running}
use Rattle.command_words.specs.Words.{order_in}
use Rattle.scrape_cli.proofs.LiveLemmas.{lacks_serve, live_wanting, same_run}
use Rattle.station.proofs.EndLemmas.{shelf_same, sink_same, source_same}
use Rattle.scrape_cli.proofs.tool.tool.Goals as goal

pub returns-in-Err-NoMemory-clause-still : goal.returns-in-Err-NoMemory-clause-still
returns-in-Err-NoMemory-clause-still g c =
    let it = call (map string_bytes c.args.words.now) (used (g.S.Shelf.seen c.args.shelf.now) (g.S.Shelf.seen c.args.shelf.now))
    (used (g.O.Sink.seen c.args.out.now) (g.O.Sink.seen c.args.out.now)) (used (g.E.Sink.seen c.args.err.now) (g.E.Sink.seen c.tell.new.err)) in
    λ _. subst (λ (s : ℕ). EndedStill s it) (sym (c.handed_back.ensures.status ∙ c.status_at.ensures)) (still_wanting it [] refl refl c.tell.ensures)

pub returns-in-Err-NoMemory-clause-live : goal.returns-in-Err-NoMemory-clause-live
returns-in-Err-NoMemory-clause-live g c =
    let shelf = g.S.Shelf.seen c.args.shelf.now in
    let err = g.E.Sink.seen c.args.err.now in
    let clock = g.K.Clock.seen c.args.clock in
    let ran = c.handed_back.result in
    let source = g.C.Source.seen c.args.control in
    let t = λ (k : g.row.K.Denot) (x : g.row.C.Denot). touched (caller_use (used shelf shelf) (used source (g.C.Source.seen x)) (used err (g.E.Sink.seen c.tell.new.err))) (outputs (used (g.R.Sink.seen c.args.trail.now) (g.R.Sink.seen c.args.trail.now)) (used (g.O.Sink.seen c.args.out.now) (g.O.Sink.seen c.args.out.now))) (used clock (g.K.Clock.seen k)) (used (map g.F.Fetch.seen c.args.fetchers.items) (map g.F.Fetch.seen ran.fetchers.items)) in
    let back = λ (k : g.row.K.Denot) (x : g.row.C.Denot). (x ≡ c.args.control) × IsReadOnce (used clock (g.K.Clock.seen k)) × (ran.fetchers ≡ c.args.fetchers) in
    λ r is. subst (λ o. IfSome o (λ k. IfSome ran.control (λ x. EndedLive ran.status r (t k x) (back k x)))) (sym c.handed_back.ensures.clock)
    (subst (λ o. IfSome o (λ x. EndedLive ran.status r (t c.args.clock x) (back c.args.clock x))) (sym c.handed_back.ensures.control)
    (subst (λ (s : ℕ). EndedLive s r (t c.args.clock c.args.control) (back c.args.clock c.args.control)) (sym (c.handed_back.ensures.status ∙ c.status_at.ensures))
    (live_wanting r (t c.args.clock c.args.control) (back c.args.clock c.args.control) [] refl refl (shelf_same shelf) (sink_same err) (source_same source) refl c.tell.ensures)))

pub returns-in_default-clause-still : goal.returns-in_default-clause-still
returns-in_default-clause-still g c =
    let it = call (map string_bytes c.args.words.now) (used (g.S.Shelf.seen c.args.shelf.now) (g.S.Shelf.seen c.tool_still-status.new.shelf))
    (used (g.O.Sink.seen c.args.out.now) (g.O.Sink.seen c.tool_still-status.new.out)) (used (g.E.Sink.seen c.args.err.now) (g.E.Sink.seen c.tool_still-status.new.err)) in
    λ h. subst (λ (s : ℕ). EndedStill s it) (sym c.handed_back-in_default.ensures.status)
    (c.tool_still-status.ensures.still (lacks_serve (order_in (map string_bytes c.args.words.now)) h))

pub returns-in_default-clause-alone : goal.returns-in_default-clause-alone
returns-in_default-clause-alone g c = λ h. record {
  trail_same = ap g.R.Sink.seen (c.tool_still-status.ensures.trail (lacks_serve (order_in (map string_bytes c.args.words.now)) h));
  fetchers_same = ap (λ (v : List g.row.F.Denot). map g.F.Fetch.seen v) (ap (λ v. v.items) c.handed_back-in_default.ensures.fetchers);
}

pub returns-in_default-clause-same : goal.returns-in_default-clause-same
returns-in_default-clause-same g c = λ h. (
  c.handed_back-in_default.ensures.control ∙ ap Some (c.tool_still-status.ensures.control (lacks_serve (order_in (map string_bytes c.args.words.now)) h)),
  c.handed_back-in_default.ensures.clock,
  c.handed_back-in_default.ensures.fetchers,
)

pub returns-in_default-clause-served : goal.returns-in_default-clause-served
returns-in_default-clause-served g c =
    let shelf = used (g.S.Shelf.seen c.args.shelf.now) (g.S.Shelf.seen c.tool_still-status.new.shelf) in
    let out = used (g.O.Sink.seen c.args.out.now) (g.O.Sink.seen c.tool_still-status.new.out) in
    let err = used (g.E.Sink.seen c.args.err.now) (g.E.Sink.seen c.tool_still-status.new.err) in
    let trail = used (g.R.Sink.seen c.args.trail.now) (g.R.Sink.seen c.tool_still-status.new.trail) in
    let source = g.C.Source.seen c.args.control in
    λ s is. (
      subst (λ o. IfSome o (λ x. EndedServe c.handed_back-in_default.result.status s (serving.touched shelf out trail (used source (g.C.Source.seen x))) err))
          (sym c.handed_back-in_default.ensures.control)
          (subst (λ (n : ℕ). EndedServe n s (serving.touched shelf out trail (used source (g.C.Source.seen c.tool_still-status.new.control))) err)
          (sym c.handed_back-in_default.ensures.status) (c.tool_still-status.ensures.served s is)),
      c.handed_back-in_default.ensures.clock,
      c.handed_back-in_default.ensures.fetchers,
    )

pub returns-in-Err-NoMemory-clause-served : goal.returns-in-Err-NoMemory-clause-served
returns-in-Err-NoMemory-clause-served g c =
    let shelf = g.S.Shelf.seen c.args.shelf.now in
    let out = g.O.Sink.seen c.args.out.now in
    let trail = g.R.Sink.seen c.args.trail.now in
    let source = g.C.Source.seen c.args.control in
    let err = used (g.E.Sink.seen c.args.err.now) (g.E.Sink.seen c.tell.new.err) in
    let t = λ (x : g.row.C.Denot). serving.touched (used shelf shelf) (used out out) (used trail trail) (used source (g.C.Source.seen x)) in
    λ s is. (
      subst (λ o. IfSome o (λ x. EndedServe c.handed_back.result.status s (t x) err)) (sym c.handed_back.ensures.control)
          (subst (λ (n : ℕ). EndedServe n s (t c.args.control) err) (sym (c.handed_back.ensures.status ∙ c.status_at.ensures))
          (wanting s (t c.args.control) err [] refl refl refl refl c.tell.ensures)),
      c.handed_back.ensures.clock,
      c.handed_back.ensures.fetchers,
    )

pub returns-in-Ok-Run-clause-live : goal.returns-in-Ok-Run-clause-live
returns-in-Ok-Run-clause-live g c =
    let ran = c.tool_live.result in
    let shelf = used (g.S.Shelf.seen c.args.shelf.now) (g.S.Shelf.seen c.tool_live.new.shelf) in
    let out = used (g.O.Sink.seen c.args.out.now) (g.O.Sink.seen c.tool_live.new.out) in
    let err = used (g.E.Sink.seen c.args.err.now) (g.E.Sink.seen c.tool_live.new.err) in
    let trail = used (g.R.Sink.seen c.args.trail.now) (g.R.Sink.seen c.tool_live.new.trail) in
    let source = g.C.Source.seen c.args.control in
    let clock = g.K.Clock.seen c.args.clock in
    let calls = used (map g.F.Fetch.seen c.args.fetchers.items) (map g.F.Fetch.seen ran.fetchers.items) in
    λ r is. subst
    (λ (x : Running). IfSome ran.clock (λ k. IfSome ran.control (λ y. EndedLive ran.status x (touched (caller_use shelf (used source (g.C.Source.seen y)) err) (outputs trail out) (used clock (g.K.Clock.seen k)) calls)
    ((y ≡ c.args.control) × IsReadOnce (used clock (g.K.Clock.seen k)) × (ran.fetchers ≡ c.args.fetchers)))))
    (same_run c.in-Ok-Run.live r (sym (c.in-Ok-Run.ensures.asked ∙ ap Some c.in-Ok-Run.field-0-is) ∙ is)) c.tool_live.ensures.live
