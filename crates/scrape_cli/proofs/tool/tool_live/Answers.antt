use Rattle.std.proofs.Common.{◌≡◌, ◌∙◌, map, rules, subst}
use Rattle.std.specs.Prelude.{Some, IfSome}
use Rattle.outside.specs.Objects.{used}
use Rattle.live_run.specs.Runs as runs
use Rattle.live_run.specs.Runs.{IsReadOnce, IsUnbegun, Wanted, outputs, touched, wanted}
use Rattle.station.specs.Control.{caller_use}
use Rattle.scrape_commands.specs.Ends.{Speaks, status_at}
use Rattle.scrape_cli.specs.Lives.{file_said, refusal_of}
use Rattle.scrape_cli.proofs.DueLemmas.{causes, complete}
use Rattle.scrape_cli.proofs.LiveLemmas.{both_told, later_said, still_control}
use Rattle.scrape_cli.proofs.tool.tool_live.Goals as goal

pub returns-clause-live : goal.returns-clause-live
returns-clause-live g c =
    let ran = c.run_live-end in
    let r = c.args.live.now in
    let end = ran.result.end in
    let between = g.E.Sink.seen ran.new.err in
    let shelf = used (g.S.Shelf.seen c.args.shelf.now) (g.S.Shelf.seen ran.new.shelf) in
    let out = used (g.O.Sink.seen c.args.out.now) (g.O.Sink.seen ran.new.out) in
    let trail = used (g.R.Sink.seen c.args.trail.now) (g.R.Sink.seen ran.new.trail) in
    let source = g.C.Source.seen c.args.control in
    let clock = g.K.Clock.seen c.args.clock in
    let calls = used (map g.F.Fetch.seen c.args.fetchers.items) (map g.F.Fetch.seen ran.result.fetchers.items) in
    let asked : wanted c.file.result.now c.turns.result c.kept.result ≡ wanted r.file r.turns r.kept = λ i. wanted (c.file.ensures i) (c.turns.ensures.turns i) (c.kept.ensures i) in
    let ended : IfSome ran.result.clock (λ k. IfSome ran.result.control (λ x.
    runs.Ended end (wanted r.file r.turns r.kept) (touched (caller_use shelf (used source (g.C.Source.seen x)) (used (g.E.Sink.seen c.args.err.now) between)) (outputs trail out) (used clock (g.K.Clock.seen k)) calls))) =
    subst (λ (w : Wanted). IfSome ran.result.clock (λ k. IfSome ran.result.control (λ x.
    runs.Ended end w (touched (caller_use shelf (used source (g.C.Source.seen x)) (used (g.E.Sink.seen c.args.err.now) between)) (outputs trail out) (used clock (g.K.Clock.seen k)) calls)))) asked ran.ensures.ended in
    let unbegun : IsUnbegun end → (ran.result.control ≡ Some c.args.control) × IfSome ran.result.clock (λ k. IsReadOnce (used clock (g.K.Clock.seen k))) × (ran.result.fetchers ≡ c.args.fetchers) = ran.ensures.unbegun in
    both_told ran.result.clock ran.result.control c.args.control
    (λ k x e u.
    let t = touched (caller_use shelf (used source (g.C.Source.seen x)) (used (g.E.Sink.seen c.args.err.now) (g.E.Sink.seen c.tell.new.err))) (outputs trail out) (used clock (g.K.Clock.seen k)) calls in
    let is : c.status_at.result ≡ status_at (refusal_of end) = c.status_at.ensures ∙ search rules in
    let speaks : Speaks (refusal_of end) (file_said end r.file) (used between (g.E.Sink.seen c.tell.new.err)) = search rules in
    let said = later_said (refusal_of end) (file_said end r.file) (used between (g.E.Sink.seen c.tell.new.err)) speaks in
    record {
      end = end;
      status_is = is;
      between = between;
      run = e;
      speaks = speaks;
      unbegun = u;
      complete = complete r t between end c.status_at.result is e said (still_control g.C.Source.seen end c.args.control x (λ w. (u w).0));
      causes = causes r t between end c.status_at.result is e said;
    })
    ended unbegun
