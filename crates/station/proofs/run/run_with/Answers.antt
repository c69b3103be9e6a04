use Rattle.std.proofs.Common.{rules, ap, ◌≡◌, ◌∙◌, ◌<◌, ◌+◌, ℕ, List, [], map, refl, sym, subst, arith, append-nil}
use Rattle.std.specs.Prelude.{vec_len, All}
use Rattle.std.proofs.lemmas.List.{length-map}
use Rattle.journal_text.specs.declared.events.Event.{Event}
use Rattle.outside.specs.Objects.{used}
use Rattle.run_lock.specs.Callers.{BeginsWith}
use Rattle.run_lock.specs.Entries.{begun_with, seats_in}
use Rattle.turn_lock.specs.Passes.{own_of}
use Rattle.station.specs.Control.{RecordsCaller, caller_use}
use Rattle.station.proofs.CloseLemmas.{all_recorded, finished_first, ticker_records, whole_end}
use Rattle.station.proofs.CrewLemmas.{and_parts}
use Rattle.station.proofs.EndLemmas.{ends_over}
use Rattle.station.proofs.RecordLemmas.{tells_over}
use mir.Syntax.{named}
use denote.Param.Send.{param_send}
use Rattle.station.proofs.SharingLemmas.{loops_back, loops_send}
use Rattle.station.proofs.run.run_with.Goals as goal
use Rattle.station.proofs.run.run_with.Lts as lts

pub close_run-whole-requires-clause-came : goal.close_run-whole-requires-clause-came
close_run-whole-requires-clause-came g c =
    let crew = c.run_beside-crew.result.0.0 in
    let ticked = c.run_beside-crew.result.0.1 in
    λ h.
    let parts = and_parts crew.ended ticked.done (sym c.both-came.ensures ∙ h) in
    finished_first (map g.F.Fetch.seen c.args.fetchers.items) (map g.F.Fetch.seen crew.fetchers.items) crew.passes.items
    (omega (arith, length-map c.args.fetchers.items g.F.Fetch.seen, c.args.fetchers.ok.0, c.requires.fetchers.0))
    (c.run_beside-crew.ensures.0.1.1.1.1.0 parts.0)

pub returns-clause-done : goal.returns-clause-done
returns-clause-done g c = λ h. c.close_run-whole.ensures.done (whole_end c.close_run-whole.result.whole _ (λ e. h (c.end_of.ensures ∙ e)))

pub returns-clause-workers : goal.returns-clause-workers
returns-clause-workers g c =
    let crew = c.run_beside-crew.result.0.0 in
    let ticked = c.run_beside-crew.result.0.1 in
    let closed = c.close_run-whole.result in
    λ h.
    let whole = whole_end closed.whole _ (λ e. h (c.end_of.ensures ∙ e)) in
    let parts = and_parts crew.ended ticked.done (sym c.both-came.ensures ∙ c.close_run-whole.ensures.came whole) in
    all_recorded 0 2 closed.core (seats_in closed.marks.items) (map g.F.Fetch.seen c.args.fetchers.items) (map g.F.Fetch.seen crew.fetchers.items) crew.passes.items refl
    (c.run_beside-crew.ensures.0.1.1.1.1.0 parts.0) (c.close_run-whole.ensures.own whole)

pub returns-clause-sweeps : goal.returns-clause-sweeps
returns-clause-sweeps g c =
    let crew = c.run_beside-crew.result.0.0 in
    let ticked = c.run_beside-crew.result.0.1 in
    let closed = c.close_run-whole.result in
    λ h.
    let whole = whole_end closed.whole _ (λ e. h (c.end_of.ensures ∙ e)) in
    let parts = and_parts crew.ended ticked.done (sym c.both-came.ensures ∙ c.close_run-whole.ensures.came whole) in
    ticker_records c.args.turns closed.core (seats_in closed.marks.items) (g.K.Clock.seen c.args.clock) (g.K.Clock.seen ticked.clock) (own_of ticked.pass)
    (c.run_beside-crew.ensures.0.1.1.1.1.1 parts.1) (c.close_run-whole.ensures.ticker whole)

pub returns-clause-ends : goal.returns-clause-ends
returns-clause-ends g c =
    let r = c.run_beside-crew.result.1 in
    ends_over
    g.S.Shelf.seen
    g.E.Sink.seen
    c.close_run-whole.result.whole
    r.2.end
    c.end_of.result
    (g.S.Shelf.seen c.args.shelf.now)
    (g.E.Sink.seen c.args.err.now)
    r.0.now
    _
    r.1.now
    _
    (used (g.C.Source.seen c.args.control) (g.C.Source.seen r.2.control))
    c.end_of.ensures
    (search rules)
    (search rules)
    c.run_beside-crew.ensures.1.5

pub returns-clause-begins : goal.returns-clause-begins
returns-clause-begins g c = subst (λ (es : List Event). BeginsWith es c.close_run-whole.result.core) (sym c.requires.start) c.close_run-whole.ensures.begins

pub returns-clause-caller : goal.returns-clause-caller
returns-clause-caller g c =
    let r = c.run_beside-crew.result.1 in
    let closed = c.close_run-whole.result in
    let control = used (g.C.Source.seen c.args.control) (g.C.Source.seen r.2.control) in
    subst
    (λ (es : List Event). RecordsCaller es c.end_of.result (caller_use (used (g.S.Shelf.seen c.args.shelf.now) (g.S.Shelf.seen c.shelf-1.given.0)) control (used (g.E.Sink.seen c.args.err.now) (g.E.Sink.seen c.err-1.given.0))) closed.core (seats_in closed.marks.items))
    (sym c.requires.start)
    (tells_over g.S.Shelf.seen g.E.Sink.seen closed.whole r.2.end c.end_of.result (g.S.Shelf.seen c.args.shelf.now) (g.E.Sink.seen c.args.err.now) r.0.now _ r.1.now _ control g.B.Asked.start closed.core (seats_in closed.marks.items)
    (own_of c.in-Ok.opened.caller) (own_of r.2.pass) c.end_of.ensures (search rules) (search rules)
    (c.in-Ok.ensures.caller.1 ∙ ap begun_with c.requires.start) c.close_run-whole.ensures.caller c.run_beside-crew.ensures.1.7)

pub returns-clause-known : goal.returns-clause-known
returns-clause-known g c =
    let crew = c.run_beside-crew.result.0.0 in
    let closed = c.close_run-whole.result in
    let many : vec_len crew.passes ≡ vec_len c.args.fetchers = omega (arith, c.run_beside-crew.ensures.0.1.0, c.in-Ok.ensures.count.0) in
    λ h. subst (λ (k : ℕ). All (λ q. q < 2 + k) (seats_in closed.marks.items)) many (c.close_run-whole.ensures.known (whole_end closed.whole _ (λ e. h (c.end_of.ensures ∙ e))))

pub run_beside-crew-requires-send-F : goal.run_beside-crew-requires-send-F
run_beside-crew-requires-send-F g c κs within =
    let taken = loops_send g.row.L g.row.B g.B.Asked g.L.Ledger g.row.W g.row.K g.row.F 6 7 (record { mir = named 6; lft = κs.1.1.1.1.1.1.0 }) c.type_bounds.send-L c.type_bounds.send-B c.type_bounds.sync-W c.type_bounds.send-K c.type_bounds.send-F in
    param_send 1 (lts.arg-2-1 g.row.L g.row.B g.row.W g.row.S g.row.E g.row.C g.row.K g.row.F g.L.laws g.B.laws g.W.laws g.S.laws g.E.laws g.C.laws g.K.laws g.F.laws g.L.Ledger g.L.Ledger-dict g.B.Asked g.B.Asked-dict g.W.Threads g.W.Threads-dict g.W.Wait g.W.Wait-dict g.S.Shelf g.S.Shelf-dict g.E.Sink g.E.Sink-dict g.C.Source g.C.Source-dict g.K.Clock g.K.Clock-dict g.F.Fetch g.F.Fetch-dict g.C.Destruct-dict g.K.Destruct-dict g.F.Destruct-dict κs) (record { owned = taken.owned; leaving = λ k x w. (tt, (tt, ((tt, ((tt, (tt, (tt, ((tt, tt), tt)))), (tt, tt))), tt))) })

pub run_beside-crew-requires-send-A : goal.run_beside-crew-requires-send-A
run_beside-crew-requires-send-A g c κs within =
    let back = loops_back g.row.L g.row.B g.B.Asked g.L.Ledger g.row.W g.row.K g.row.F 6 7 (record { mir = named 6; lft = κs.1.1.1.1.1.1.0 }) c.type_bounds.send-L c.type_bounds.send-B c.type_bounds.send-K c.type_bounds.send-F in
    param_send 3 (lts.arg-2-3 g.row.L g.row.B g.row.W g.row.S g.row.E g.row.C g.row.K g.row.F g.L.laws g.B.laws g.W.laws g.S.laws g.E.laws g.C.laws g.K.laws g.F.laws g.L.Ledger g.L.Ledger-dict g.B.Asked g.B.Asked-dict g.W.Threads g.W.Threads-dict g.W.Wait g.W.Wait-dict g.S.Shelf g.S.Shelf-dict g.E.Sink g.E.Sink-dict g.C.Source g.C.Source-dict g.K.Clock g.K.Clock-dict g.F.Fetch g.F.Fetch-dict g.C.Destruct-dict g.K.Destruct-dict g.F.Destruct-dict κs) (record { owned = back.owned; leaving = λ k x w. ((tt, (tt, tt)), ((tt, ((tt, tt), tt)), tt)) })

pub returns-in-Err-clause-begins : goal.returns-in-Err-clause-begins
returns-in-Err-clause-begins g c = ([], c.in-Err.ensures.err.0 ∙ sym (append-nil c.args.core))
