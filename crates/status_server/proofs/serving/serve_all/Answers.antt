use Rattle.std.proofs.Common.{◌≡◌, ◌∙◌, ◌+◌, ◌++◌, Ok, ap, arith, drop, subst, sym, take}
use Rattle.outside.specs.Objects.{used}
use Rattle.status_server.specs.Reloads.{basis}
use Rattle.status_server.specs.Serving.{Serves, touched}
use Rattle.status_server.specs.Steps.{Ended, Reached, Reaches, StopsIn, site}
use Rattle.status_server.proofs.ServeLemmas.{Has, at-end, ended, goes-on, has-none, long, no-room, none-served, room-is, stopped}
use Rattle.status_server.proofs.serving.serve_all.Goals as goal

pub returns-in_default : goal.returns-in_default
returns-in_default g c =
    none-served c.args.server.now c.args.file.now (g.S.Shelf.seen c.args.shelf.now) (g.C.Source.seen c.args.source.now) (g.O.Sink.seen c.args.sink.now)

pub loop-init : goal.loop-init
loop-init g c = record {
  room = c.in-Ok.ensures.len;
  reads = omega arith;
  has = has-none c.args.server.now c.args.file.now c.new-waiting.result.items (g.S.Shelf.seen c.args.shelf.now) (g.C.Source.seen c.args.source.now)
      (g.O.Sink.seen c.args.sink.now) c.new-waiting.ensures.items;
}

pub returns-then-count-eq0 : goal.returns-then-count-eq0
returns-then-count-eq0 g c =
    at-end c.args.server.now c.args.file.now c.loop.given c.loop.waiting.items c.loop.server (g.S.Shelf.seen c.args.shelf.now) (g.S.Shelf.seen c.loop.shelf)
    (g.C.Source.seen c.args.source.now) (g.C.Source.seen c.loop.source) (g.C.Source.seen c.read.new.self) (g.O.Sink.seen c.args.sink.now) (g.O.Sink.seen c.loop.sink)
    c.loop.invariant.has c.read.new.room c.in-Ok-read.count c.if-count-eq0.true c.in-Ok-read.ensures.gave (c.in-Ok-read.ensures.end (ap Ok c.if-count-eq0.true))

pub returns-in_default-extend_from_slice : goal.returns-in_default-extend_from_slice
returns-in_default-extend_from_slice g c =
    let s0 = g.S.Shelf.seen c.args.shelf.now in
    let s1 = g.S.Shelf.seen c.loop.shelf in
    let c0 = g.C.Source.seen c.args.source.now in
    let c1 = g.C.Source.seen c.loop.source in
    let c2 = g.C.Source.seen c.read.new.self in
    let o0 = g.O.Sink.seen c.args.sink.now in
    let o1 = g.O.Sink.seen c.loop.sink in
    let room = c.read.new.room in
    let n = c.in-Ok-read.count in
    let kept = c.min-kept.result in
    no-room c.args.server.now c.args.file.now c.loop.given c.loop.waiting.items c.loop.server s0 s1 c0 c1 c2 o0 o1 c.loop.invariant.has room n kept c.in-Ok-read.ensures.within c.min-kept.ensures c.in-Ok-read.ensures.gave

pub returns-in-Err : goal.returns-in-Err
returns-in-Err g c =
    let s0 = g.S.Shelf.seen c.args.shelf.now in
    let s1 = g.S.Shelf.seen c.loop.shelf in
    let c0 = g.C.Source.seen c.args.source.now in
    let c1 = g.C.Source.seen c.loop.source in
    let c2 = g.C.Source.seen c.read.new.self in
    let o0 = g.O.Sink.seen c.args.sink.now in
    let o1 = g.O.Sink.seen c.loop.sink in
    let room = c.read.new.room in
    let n = c.in-Ok-read.count in
    let kept = c.min-kept.result in
    let s2 = g.S.Shelf.seen c.answer_all.new.shelf in
    let o2 = g.O.Sink.seen c.answer_all.new.sink in
    let after = c.answer_all.new.server in
    let whole = room-is c.loop.room.len room _ c.deref.result.now c.deref.ensures.value (c.read.auto.room ∙ c.deref_mut.ensures.len) in
    let bytes : c.deref-in-loop.result.now ≡ c.loop.waiting.items ++ take kept room =
    c.deref-in-loop.ensures.value ∙ (c.in-Ok-extend_from_slice.ensures.items ∙ ap (λ t. c.loop.waiting.items ++ take kept t) whole) in
    subst (λ end. Serves end c.args.server.now c.args.file.now (touched (used s0 s2) (used c0 c2) (used o0 o2)) after) (sym c.end_of.ensures)
    (stopped c.args.server.now c.args.file.now c.loop.given c.loop.waiting.items c.loop.server s0 s1 c0 c1 c2 o0 o1 c.loop.invariant.has room n kept c.in-Ok-read.ensures.within c.min-kept.ensures c.in-Ok-read.ensures.gave after s2 o2 c.in-Err.stop
    (subst (λ t. StopsIn c.in-Err.stop (basis c.loop.server (site s1 c.args.file.now)) t after (used o1 o2)) bytes c.in-Err.ensures.stopped)
    c.in-Err.ensures.shelf)

pub returns-in-Ok-None : goal.returns-in-Ok-None
returns-in-Ok-None g c =
    let s0 = g.S.Shelf.seen c.args.shelf.now in
    let s1 = g.S.Shelf.seen c.loop.shelf in
    let c0 = g.C.Source.seen c.args.source.now in
    let c1 = g.C.Source.seen c.loop.source in
    let c2 = g.C.Source.seen c.read.new.self in
    let o0 = g.O.Sink.seen c.args.sink.now in
    let o1 = g.O.Sink.seen c.loop.sink in
    let room = c.read.new.room in
    let n = c.in-Ok-read.count in
    let kept = c.min-kept.result in
    let s2 = g.S.Shelf.seen c.answer_all.new.shelf in
    let o2 = g.O.Sink.seen c.answer_all.new.sink in
    let after = c.answer_all.new.server in
    let whole = room-is c.loop.room.len room _ c.deref.result.now c.deref.ensures.value (c.read.auto.room ∙ c.deref_mut.ensures.len) in
    let bytes : c.deref-in-loop.result.now ≡ c.loop.waiting.items ++ take kept room =
    c.deref-in-loop.ensures.value ∙ (c.in-Ok-extend_from_slice.ensures.items ∙ ap (λ t. c.loop.waiting.items ++ take kept t) whole) in
    ended c.args.server.now c.args.file.now c.loop.given c.loop.waiting.items c.loop.server s0 s1 c0 c1 c2 o0 o1 c.loop.invariant.has room n kept c.in-Ok-read.ensures.within c.min-kept.ensures c.in-Ok-read.ensures.gave after s2 o2
    (subst (λ t. Ended (basis c.loop.server (site s1 c.args.file.now)) t after (used o1 o2)) bytes
    (subst (λ r. Reaches (basis c.loop.server (site s1 c.args.file.now)) c.deref-in-loop.result.now r after (used o1 o2)) c.in-Ok-None.field-0-is c.in-Ok-None.ensures.reached))
    c.in-Ok-None.ensures.stays

pub returns-then-kept-count : goal.returns-then-kept-count
returns-then-kept-count g c =
    let s0 = g.S.Shelf.seen c.args.shelf.now in
    let s1 = g.S.Shelf.seen c.loop.shelf in
    let c0 = g.C.Source.seen c.args.source.now in
    let c1 = g.C.Source.seen c.loop.source in
    let c2 = g.C.Source.seen c.read.new.self in
    let o0 = g.O.Sink.seen c.args.sink.now in
    let o1 = g.O.Sink.seen c.loop.sink in
    let room = c.read.new.room in
    let n = c.in-Ok-read.count in
    let kept = c.min-kept.result in
    let s2 = g.S.Shelf.seen c.answer_all.new.shelf in
    let o2 = g.O.Sink.seen c.answer_all.new.sink in
    let after = c.answer_all.new.server in
    let whole = room-is c.loop.room.len room _ c.deref.result.now c.deref.ensures.value (c.read.auto.room ∙ c.deref_mut.ensures.len) in
    let bytes : c.deref-in-loop.result.now ≡ c.loop.waiting.items ++ take kept room =
    c.deref-in-loop.ensures.value ∙ (c.in-Ok-extend_from_slice.ensures.items ∙ ap (λ t. c.loop.waiting.items ++ take kept t) whole) in
    long c.args.server.now c.args.file.now c.loop.given c.loop.waiting.items c.loop.server s0 s1 c0 c1 c2 o0 o1 c.loop.invariant.has room n kept c.in-Ok-read.ensures.within c.min-kept.ensures c.in-Ok-read.ensures.gave after s2 o2 c.in-Ok-Some.len
    (subst (λ t. Reached (basis c.loop.server (site s1 c.args.file.now)) t c.in-Ok-Some.len after (used o1 o2)) bytes
    (subst (λ r. Reaches (basis c.loop.server (site s1 c.args.file.now)) c.deref-in-loop.result.now r after (used o1 o2)) c.in-Ok-Some.field-0-is c.in-Ok-Some.ensures.reached))
    c.in-Ok-Some.ensures.stays (omega (arith, c.if-kept-count.true))

pub loop-preserved : goal.loop-preserved
loop-preserved g c =
    let s0 = g.S.Shelf.seen c.args.shelf.now in
    let s1 = g.S.Shelf.seen c.loop.shelf in
    let c0 = g.C.Source.seen c.args.source.now in
    let c1 = g.C.Source.seen c.loop.source in
    let c2 = g.C.Source.seen c.read.new.self in
    let o0 = g.O.Sink.seen c.args.sink.now in
    let o1 = g.O.Sink.seen c.loop.sink in
    let room = c.read.new.room in
    let n = c.in-Ok-read.count in
    let kept = c.min-kept.result in
    let s2 = g.S.Shelf.seen c.answer_all.new.shelf in
    let o2 = g.O.Sink.seen c.answer_all.new.sink in
    let after = c.answer_all.new.server in
    let whole = room-is c.loop.room.len room _ c.deref.result.now c.deref.ensures.value (c.read.auto.room ∙ c.deref_mut.ensures.len) in
    let bytes : c.deref-in-loop.result.now ≡ c.loop.waiting.items ++ take kept room =
    c.deref-in-loop.ensures.value ∙ (c.in-Ok-extend_from_slice.ensures.items ∙ ap (λ t. c.loop.waiting.items ++ take kept t) whole) in
    let next = goes-on c.args.server.now c.args.file.now c.loop.given c.loop.waiting.items c.loop.server s0 s1 c0 c1 c2 o0 o1 c.loop.invariant.has room n kept c.in-Ok-read.ensures.within c.min-kept.ensures c.in-Ok-read.ensures.gave after s2 o2 c.in-Ok-Some.len
    (subst (λ t. Reached (basis c.loop.server (site s1 c.args.file.now)) t c.in-Ok-Some.len after (used o1 o2)) bytes
    (subst (λ r. Reaches (basis c.loop.server (site s1 c.args.file.now)) c.deref-in-loop.result.now r after (used o1 o2)) c.in-Ok-Some.field-0-is c.in-Ok-Some.ensures.reached))
    c.in-Ok-Some.ensures.stays (omega (arith, c.if-kept-count.false)) in
    let items : c.drop_front.new.waiting.items ≡ drop c.in-Ok-Some.len (c.loop.waiting.items ++ take kept room) =
    c.drop_front.ensures ∙ ap (λ t. drop c.in-Ok-Some.len t) (c.in-Ok-extend_from_slice.ensures.items ∙ ap (λ t. c.loop.waiting.items ++ take kept t) whole) in
    record {
      room = c.loop.invariant.room;
      reads = omega (arith, c.loop.invariant.reads, c.if-kept-count.false, c.if-count-eq0.false, c.min-kept.ensures);
      has = subst (λ w. Has c.args.server.now c.args.file.now (c.loop.given + kept) w after (touched (used s0 s2) (used c0 c2) (used o0 o2))) (sym items) next;
    }
