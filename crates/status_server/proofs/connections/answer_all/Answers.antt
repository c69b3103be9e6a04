use Rattle.std.proofs.Common.{drop, refl, subst}
use Rattle.std.proofs.lemmas.List.{take_rest}
use Rattle.outside.specs.Objects.{used}
use Rattle.status_server.specs.Reloads.{basis}
use Rattle.status_server.specs.Steps.{PutStep, StopsStep, site}
use Rattle.status_server.specs.declared.connections.Step.TheVariants.{GoesOn, Ends}
use Rattle.status_server.proofs.StepLemmas.{run-ends, run-goes, run-none, run-stops, site-stays, stays-then}
use Rattle.status_server.proofs.connections.answer_all.Goals as goal

pub loop-stop-init : goal.loop-stop-init
loop-stop-init g c = record {
  run = run-none c.args.server.now (site (g.S.Shelf.seen c.args.shelf.now) c.args.file.now) c.args.bytes.now (g.O.Sink.seen c.args.sink.now);
  stays = record { files = refl; faults = refl };
}

pub returns-in-Err-clause-stopped : goal.returns-in-Err-clause-stopped
returns-in-Err-clause-stopped g c =
    let s0 = g.S.Shelf.seen c.args.shelf.now in
    let s1 = g.S.Shelf.seen c.loop-stop.shelf in
    let o0 = g.O.Sink.seen c.args.sink.now in
    let o1 = g.O.Sink.seen c.loop-stop.sink in
    let o2 = g.O.Sink.seen c.answer_front.new.sink in
    let left = drop c.loop-stop.len c.args.bytes.now in
    run-stops c.in-Err.stop c.args.server.now (site s0 c.args.file.now) c.args.bytes.now c.loop-stop.len c.loop-stop.server c.answer_front.new.server o0 o1 o2
    c.loop-stop.invariant.run
    (subst (λ x. StopsStep c.in-Err.stop (basis c.loop-stop.server x) left c.answer_front.new.server (used o1 o2)) (site-stays s0 s1 c.args.file.now c.loop-stop.invariant.stays)
    (subst (λ t. StopsStep c.in-Err.stop (basis c.loop-stop.server (site s1 c.args.file.now)) t c.answer_front.new.server (used o1 o2)) (take_rest c.args.bytes.now c.loop-stop.len) c.in-Err.ensures.stopped))

pub loop-stop-preserved : goal.loop-stop-preserved
loop-stop-preserved g c =
    let s0 = g.S.Shelf.seen c.args.shelf.now in
    let s1 = g.S.Shelf.seen c.loop-stop.shelf in
    let o0 = g.O.Sink.seen c.args.sink.now in
    let o1 = g.O.Sink.seen c.loop-stop.sink in
    let o2 = g.O.Sink.seen c.answer_front.new.sink in
    let left = drop c.loop-stop.len c.args.bytes.now in
    record {
      run = run-goes c.args.server.now (site s0 c.args.file.now) c.args.bytes.now c.loop-stop.len c.in-Ok-GoesOn.more c.loop-stop.server c.answer_front.new.server o0 o1 o2
          c.loop-stop.invariant.run
          (subst (λ x. PutStep (basis c.loop-stop.server x) left (GoesOn c.in-Ok-GoesOn.more) c.answer_front.new.server (used o1 o2))
          (site-stays s0 s1 c.args.file.now c.loop-stop.invariant.stays)
          (subst (λ step. PutStep (basis c.loop-stop.server (site s1 c.args.file.now)) left step c.answer_front.new.server (used o1 o2)) c.in-Ok-GoesOn.field-0-is
          (subst (λ t. PutStep (basis c.loop-stop.server (site s1 c.args.file.now)) t c.in-Ok-GoesOn.field-0 c.answer_front.new.server (used o1 o2)) (take_rest c.args.bytes.now c.loop-stop.len) c.in-Ok-GoesOn.ensures.put)));
      stays = stays-then s0 s1 (g.S.Shelf.seen c.answer_front.new.shelf) c.loop-stop.invariant.stays c.in-Ok-GoesOn.ensures.stays;
    }

pub returns-in-Ok-Ends-clause-reached : goal.returns-in-Ok-Ends-clause-reached
returns-in-Ok-Ends-clause-reached g c =
    let s0 = g.S.Shelf.seen c.args.shelf.now in
    let s1 = g.S.Shelf.seen c.loop-stop.shelf in
    let o0 = g.O.Sink.seen c.args.sink.now in
    let o1 = g.O.Sink.seen c.loop-stop.sink in
    let o2 = g.O.Sink.seen c.answer_front.new.sink in
    let left = drop c.loop-stop.len c.args.bytes.now in
    run-ends c.args.server.now (site s0 c.args.file.now) c.args.bytes.now c.loop-stop.len c.loop-stop.server c.answer_front.new.server o0 o1 o2
    c.loop-stop.invariant.run
    (subst (λ x. PutStep (basis c.loop-stop.server x) left Ends c.answer_front.new.server (used o1 o2))
    (site-stays s0 s1 c.args.file.now c.loop-stop.invariant.stays)
    (subst (λ step. PutStep (basis c.loop-stop.server (site s1 c.args.file.now)) left step c.answer_front.new.server (used o1 o2)) c.in-Ok-Ends.field-0-is
    (subst (λ t. PutStep (basis c.loop-stop.server (site s1 c.args.file.now)) t c.in-Ok-Ends.field-0 c.answer_front.new.server (used o1 o2)) (take_rest c.args.bytes.now c.loop-stop.len) c.in-Ok-Ends.ensures.put)))
