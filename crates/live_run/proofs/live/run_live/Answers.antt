use Rattle.std.proofs.Common.{◌∙◌, ◌<◌, ◌+◌, ◌∷◌, [], ℕ, ℤ, List, map, refl, subst, sym}
use Rattle.std.proofs.lemmas.List.{length-map}
use Rattle.journal_text.specs.declared.events.Event.{Event}
use Rattle.journal_text.specs.declared.events.Event.TheVariants.{Load}
use Rattle.run_lock.specs.Callers.{BeginsWith}
use Rattle.station.specs.Control.{RecordsCaller, caller_use}
use Rattle.std.specs.Prelude.{All, IfSome}
use Rattle.outside.specs.Clocks.{Reads}
use Rattle.live_run.specs.declared.asked.LiveEnd.{LiveEnd}
use mir.Syntax.{w64}
use mir.Val.{of_z, to_z}
use Rattle.outside.specs.Objects.{ShelfSeen, used}
use Rattle.station.specs.Ends.{EndsSo, ShelfWent}
use Rattle.live_run.specs.Runs.{Ended, IsUnstarted, outputs, touched, wanted}
use Rattle.live_run.proofs.EndLemmas.{Known, begun, ended, reading_is, unbegun, with_some, with_three}
use Rattle.live_run.proofs.live.run_live.Goals as goal

pub returns-clause-unbegun : goal.returns-clause-unbegun
returns-clause-unbegun g c =
    let trail = used (g.R.Sink.seen c.args.trail.now) (g.R.Sink.seen c.finish_run-end.new.trail) in
    let out = used (g.O.Sink.seen c.args.out.now) (g.O.Sink.seen c.finish_run-end.new.out) in
    λ u. absurd (begun c.run_station-ran.result.end c.finish_run-end.result c.args.asked.kept c.run_station-ran.result.core trail out c.finish_run-end.ensures u)

pub returns-clause-ended : goal.returns-clause-ended
returns-clause-ended g c =
    let ran = c.run_station-ran in
    let before = g.S.Shelf.seen c.args.shelf.now in
    let after = g.S.Shelf.seen ran.new.shelf in
    let err = used (g.E.Sink.seen c.args.err.now) (g.E.Sink.seen ran.new.err) in
    let m = to_z w64 (of_z w64 c.now-moment.result) in
    let first = c.in-Ok.ensures.core in
    let same = c.in-Ok.ensures.untouched in
    let w = wanted c.args.asked.file.now c.args.asked.turns c.args.asked.kept in
    with_some ran.result.clock (λ k sweeps.
    with_three ran.result.control (λ x caller ends went.
    let control = used (g.C.Source.seen c.args.control) (g.C.Source.seen x) in
    let t = touched (caller_use (used before after) control err) (outputs (used (g.R.Sink.seen c.args.trail.now) (g.R.Sink.seen c.finish_run-end.new.trail)) (used (g.O.Sink.seen c.args.out.now) (g.O.Sink.seen c.finish_run-end.new.out))) (used (g.K.Clock.seen c.args.clock) (g.K.Clock.seen k)) (used (map g.F.Fetch.seen c.args.fetchers.items) (map g.F.Fetch.seen ran.result.fetchers.items)) in
    let known : Known ran.result.end w t ran.result.core ran.result.seats = record {
      moment = m;
      later = g.K.Clock.seen c.now-moment.new.self;
      reading = subst (λ (z : ℤ). IfSome (g.K.Clock.seen c.args.clock).readings (λ readings. Reads z readings (g.K.Clock.seen c.now-moment.new.self).readings)) (sym (reading_is c.now-moment.result c.now-moment.ensures.limits)) c.now-moment.ensures.read;
      text = first.0;
      has = first.1;
      short = first.2;
      taken = first.3;
      begins = λ h. subst (λ (es : List Event). BeginsWith es ran.result.core) first.4 ran.ensures.begins;
      caller = subst
          (λ (s : ShelfSeen). RecordsCaller (Load m first.0 ∷ []) ran.result.end (caller_use (used s after) control err) ran.result.core ran.result.seats) same
          (subst (λ (es : List Event). RecordsCaller es ran.result.end (caller_use (used (g.S.Shelf.seen c.first_load.new.shelf) after) control err) ran.result.core ran.result.seats) first.4 caller);
      whole = ran.ensures.done;
      each = λ h. ran.ensures.seats;
      known = λ h. subst (λ (n : ℕ). All (λ q. q < 2 + n) ran.result.seats) (c.args.fetchers.ok.0 ∙ sym (length-map c.args.fetchers.items g.F.Fetch.seen)) (ran.ensures.known h);
      sweeps = sweeps;
      workers = ran.ensures.workers;
      shelf = subst (λ (s : ShelfSeen). ShelfWent (used s after)) same ran.ensures.shelf;
      err = ran.ensures.err;
      control = went;
      ends = subst (λ (s : ShelfSeen). EndsSo ran.result.end (used s after) err control) same ends;
    } in
    ended w t ran.result.core ran.result.seats ran.result.end c.finish_run-end.result known c.finish_run-end.ensures)
    ran.ensures.caller ran.ensures.ends ran.ensures.control)
    ran.ensures.sweeps

pub returns-in-Err-clause-ended : goal.returns-in-Err-clause-ended
returns-in-Err-clause-ended g c =
    let r = c.unstarted.result in
    let before = g.S.Shelf.seen c.args.shelf.now in
    let after = g.S.Shelf.seen c.first_load.new.shelf in
    let out = g.O.Sink.seen c.args.out.now in
    let err = g.E.Sink.seen c.args.err.now in
    let trail = g.R.Sink.seen c.args.trail.now in
    let control = g.C.Source.seen c.args.control in
    let clock = g.K.Clock.seen c.args.clock in
    let w = wanted c.args.asked.file.now c.args.asked.turns c.args.asked.kept in
    let calls = used (map g.F.Fetch.seen c.args.fetchers.items) (map g.F.Fetch.seen r.fetchers.items) in
    let t = touched (caller_use (used before after) (used control control) (used err err)) (outputs (used trail trail) (used out out)) (used clock (g.K.Clock.seen c.now-moment.new.self)) calls in
    subst (λ o. IfSome o (λ k. IfSome r.control (λ x. Ended r.end w (touched (caller_use (used before after) (used control (g.C.Source.seen x)) (used err err)) (outputs (used trail trail) (used out out)) (used clock (g.K.Clock.seen k)) calls)))) (sym c.unstarted.ensures.clock)
    (subst (λ o. IfSome o (λ x. Ended r.end w (touched (caller_use (used before after) (used control (g.C.Source.seen x)) (used err err)) (outputs (used trail trail) (used out out)) (used clock (g.K.Clock.seen c.now-moment.new.self)) calls))) (sym c.unstarted.ensures.control)
    (unbegun r.end w t (subst (λ (e : LiveEnd). IsUnstarted e w.file (used before after)) (sym c.unstarted.ensures.end) c.in-Err.ensures.refused) refl refl refl refl))
