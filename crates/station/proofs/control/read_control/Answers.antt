use Rattle.std.proofs.Common.{◌≡◌, ◌∙◌, ◌+◌, ◌≤◌, ℕ, List, ◌++◌, length, take, drop, sym, ap, refl, subst, arith}
use Rattle.outside.specs.Objects.{used}
use Rattle.outside.specs.Sources.{SourceSeen}
use Rattle.station.proofs.EndLemmas.{shelf_same, sink_same, source_same, shelf_then, sink_then, source_gave, gave_count, last_ends, line_sound, piece_ends, goes_on, cut_over, cut_short, cut_none}
use Rattle.turn_lock.specs.Passes.{own_of}
use Rattle.std.specs.Prelude.{Option, Ok, IfSome}
use Rattle.std.proofs.lemmas.List.{length-take}
use Rattle.outside.specs.declared.objects.StoredFile.{StoredFile}
use Rattle.run_lock.specs.Callers.{jobs_known}
use Rattle.station.specs.Control.{DoesSo, LastDoes, last_did, piece_did}
use Rattle.station.proofs.OrderLemmas.{does_ok, if_map}
use Rattle.station.proofs.EatenLemmas.{all_gives, cut_few, cut_full, cut_more, cut_whole, done_ok, eaten_done, eaten_failed, eaten_first, eaten_next, eaten_piece, ends_gone, err_none, goes_ok, kept_gives, kept_less, kept_whole, room_is}
use Rattle.station.proofs.control.read_control.Goals as goal

pub loop-init : goal.loop-init
loop-init g c = record {
  can = tt;
  finite = tt;
  lock = refl;
  seat = c.requires.seat;
  room = c.in-Ok.ensures.len;
  few = omega arith;
  given = omega arith;
  shelf = shelf_same (g.S.Shelf.seen c.args.shelf.now);
  err = sink_same (g.E.Sink.seen c.args.err.now);
  control = source_same (g.C.Source.seen c.args.control.now);
  calm = (refl, refl, refl);
  before = omega arith;
  eaten = eaten_first (g.S.Shelf.seen c.args.shelf.now).files g.B.Asked.start (g.C.Source.seen c.args.control.now).left (own_of c.args.seat.now.pass) (g.E.Sink.seen c.args.err.now) _ c.new.ensures.items refl;
}

pub do_last-requires-clause-few : goal.do_last-requires-clause-few
do_last-requires-clause-few g c = omega (arith, c.loop.invariant.before, c.loop.invariant.few)

pub do_piece-done-requires-clause-few : goal.do_piece-done-requires-clause-few
do_piece-done-requires-clause-few g c =
    cut_few c.in-Ok-read.count c.loop.given c.min-kept.result (length c.deref.result.now) _ c.loop.reader.before c.min-kept.ensures c.loop.invariant.few (length-take c.min-kept.result c.deref.result.now) c.loop.invariant.before

pub returns-in_default-read-clause-did : goal.returns-in_default-read-clause-did
returns-in_default-read-clause-did g c =
    let s = used (g.S.Shelf.seen c.args.shelf.now) (g.S.Shelf.seen c.loop.shelf) in
    let control = used (g.C.Source.seen c.args.control.now) (g.C.Source.seen c.read.new.self) in
    eaten_failed g.B.Asked.start c.loop.given c.loop.reader (g.C.Source.seen c.loop.control).left (own_of c.args.seat.now.pass) (own_of c.loop.seat.pass) (used (g.E.Sink.seen c.args.err.now) (g.E.Sink.seen c.loop.err)) s control c.loop.invariant.eaten
    (ap (λ (x : SourceSeen). x.given) c.in_default-read.ensures.failed.rest ∙ c.loop.invariant.given) c.loop.invariant.few

pub returns-then-count-eq0-clause-did : goal.returns-then-count-eq0-clause-did
returns-then-count-eq0-clause-did g c =
    let start = g.B.Asked.start in
    let v = own_of c.args.seat.now.pass in
    let w = own_of c.loop.seat.pass in
    let u = own_of c.do_last.new.seat.pass in
    let a = g.E.Sink.seen c.args.err.now in
    let b = g.E.Sink.seen c.loop.err in
    let e = g.E.Sink.seen c.do_last.new.err in
    let s = used (g.S.Shelf.seen c.args.shelf.now) (g.S.Shelf.seen c.do_last.new.shelf) in
    let t = used (g.S.Shelf.seen c.loop.shelf) (g.S.Shelf.seen c.do_last.new.shelf) in
    let control = used (g.C.Source.seen c.args.control.now) (g.C.Source.seen c.read.new.self) in
    let was = c.loop.invariant in
    eaten_done c.do_last.result start c.loop.given c.loop.reader (g.C.Source.seen c.loop.control).left v w u a b e s t (used b e) control was.eaten was.few
    (c.in-Ok-read.ensures.end (ap Ok c.if-count-eq0.true)) was.calm.0 refl c.do_last.ensures.ends
    (subst (λ (p : Option (List StoredFile)). IfSome p (λ files. LastDoes c.do_last.result (last_did files (jobs_known start w) c.loop.reader) (used w u) (used b e))) was.shelf.files c.do_last.ensures.did)

pub returns-in-Some-end_after-clause-did : goal.returns-in-Some-end_after-clause-did
returns-in-Some-end_after-clause-did g c =
    let start = g.B.Asked.start in
    let mid = (g.C.Source.seen c.loop.control).left in
    let now = (g.C.Source.seen c.read.new.self).left in
    let v = own_of c.args.seat.now.pass in
    let w = own_of c.loop.seat.pass in
    let u = own_of c.do_piece-done.new.seat.pass in
    let a = g.E.Sink.seen c.args.err.now in
    let b = g.E.Sink.seen c.loop.err in
    let e = g.E.Sink.seen c.do_piece-done.new.err in
    let s = used (g.S.Shelf.seen c.args.shelf.now) (g.S.Shelf.seen c.do_piece-done.new.shelf) in
    let t = used (g.S.Shelf.seen c.loop.shelf) (g.S.Shelf.seen c.do_piece-done.new.shelf) in
    let control = used (g.C.Source.seen c.args.control.now) (g.C.Source.seen c.read.new.self) in
    let was = c.loop.invariant in
    let n = c.in-Ok-read.count in
    let k = c.min-kept.result in
    let room = c.read.new.room in
    let all = c.deref.result.now in
    let d = c.do_piece-done.result in
    let same = room_is c.loop.room.len room _ all c.deref.ensures.value (c.read.auto.room ∙ c.deref_mut.ensures.len) in
    let within : n ≤ length all = omega (arith, c.in-Ok-read.ensures.within, ap (λ (xs : List ℕ). length xs) same) in
    let whole : take k all ++ drop k (take n room) ≡ take n room = kept_whole k n room all same (kept_less n c.loop.given k c.min-kept.ensures) in
    let few = cut_few n c.loop.given k (length all) _ c.loop.given c.min-kept.ensures was.few (length-take k all) (omega arith) in
    eaten_piece start c.loop.given c.loop.reader mid now v w u a b e s t (used b e) control (take k all) (drop k (take n room)) d _ c.in-Some-end_after.end was.eaten
    (kept_gives k n room all mid now same (kept_less n c.loop.given k c.min-kept.ensures) c.in-Ok-read.ensures.gave.left) few
    (λ long. (
      cut_full n c.loop.given k (length all) _ c.min-kept.ensures was.few within (length-take k all) long,
      cut_more n k (take k all) (drop k (take n room)) (take n room) all room (length-take k all) (length-take n room) c.in-Ok-read.ensures.within whole long,
    ))
    was.calm.0 refl c.do_piece-done.ensures.stops (sym c.end_after.ensures ∙ c.in-Some-end_after.is)
    (subst (λ (p : Option (List StoredFile)). IfSome p (λ files. DoesSo d (piece_did files (jobs_known start w) c.loop.reader (take k all)) (used w u) (used b e))) was.shelf.files c.do_piece-done.ensures.did)

pub returns-then-count-eq0-clause-err : goal.returns-then-count-eq0-clause-err
returns-then-count-eq0-clause-err g c = sink_then (g.E.Sink.seen c.args.err.now) (g.E.Sink.seen c.loop.err) (g.E.Sink.seen c.do_last.new.err) c.loop.invariant.err c.do_last.ensures.err

pub returns-then-count-eq0-clause-ends : goal.returns-then-count-eq0-clause-ends
returns-then-count-eq0-clause-ends g c =
    let z = g.C.Source.seen c.loop.control in
    let w = g.C.Source.seen c.read.new.self in
    let was = c.loop.invariant in
    let ended = ends_gone was.eaten.eaten (take c.in-Ok-read.count c.read.new.room) (g.C.Source.seen c.args.control.now).left z.left w.left was.eaten.gives (c.in-Ok-read.ensures.end (ap Ok c.if-count-eq0.true)) c.in-Ok-read.ensures.gave.left in
    last_ends
    (g.S.Shelf.seen c.args.shelf.now)
    (g.S.Shelf.seen c.loop.shelf)
    (g.S.Shelf.seen c.do_last.new.shelf)
    (g.E.Sink.seen c.args.err.now)
    (g.E.Sink.seen c.loop.err)
    (g.E.Sink.seen c.do_last.new.err)
    (used (g.C.Source.seen c.args.control.now) w)
    c.do_last.result
    (omega (arith, was.few, was.given, c.if-count-eq0.true, gave_count c.in-Ok-read.count c.read.new.room (used z w) c.in-Ok-read.ensures.within c.in-Ok-read.ensures.gave))
    ended
    (c.in-Ok-read.ensures.gave.sound ∙ was.calm.2)
    was.calm.0
    was.calm.1
    c.do_last.ensures.ends

pub returns-in-Some-end_after-clause-err : goal.returns-in-Some-end_after-clause-err
returns-in-Some-end_after-clause-err g c = sink_then (g.E.Sink.seen c.args.err.now) (g.E.Sink.seen c.loop.err) (g.E.Sink.seen c.do_piece-done.new.err) c.loop.invariant.err c.do_piece-done.ensures.err

pub returns-in-Some-end_after-clause-ends : goal.returns-in-Some-end_after-clause-ends
returns-in-Some-end_after-clause-ends g c =
    let x = g.C.Source.seen c.args.control.now in
    let z = g.C.Source.seen c.loop.control in
    let w = g.C.Source.seen c.read.new.self in
    let n = c.in-Ok-read.count in
    let was = c.loop.invariant in
    let gave = gave_count n c.read.new.room (used z w) c.in-Ok-read.ensures.within c.in-Ok-read.ensures.gave ∙ ap (λ k. k + n) was.given in
    piece_ends
    (g.S.Shelf.seen c.args.shelf.now)
    (g.S.Shelf.seen c.loop.shelf)
    (g.S.Shelf.seen c.do_piece-done.new.shelf)
    (g.E.Sink.seen c.args.err.now)
    (g.E.Sink.seen c.loop.err)
    (g.E.Sink.seen c.do_piece-done.new.err)
    (used x w)
    c.do_piece-done.result
    _
    c.in-Some-end_after.end
    (cut_over n c.loop.given c.min-kept.result x.given w.given c.min-kept.ensures was.few gave)
    (cut_short n c.loop.given c.min-kept.result x.given w.given c.min-kept.ensures was.few gave)
    (c.in-Ok-read.ensures.gave.sound ∙ was.calm.2)
    was.calm.0
    was.calm.1
    c.do_piece-done.ensures.stops
    (sym c.end_after.ensures ∙ c.in-Some-end_after.is)

pub loop-preserved : goal.loop-preserved
loop-preserved g c =
    let x = g.C.Source.seen c.args.control.now in
    let z = g.C.Source.seen c.loop.control in
    let w = g.C.Source.seen c.read.new.self in
    let n = c.in-Ok-read.count in
    let gave = gave_count n c.read.new.room (used z w) c.in-Ok-read.ensures.within c.in-Ok-read.ensures.gave ∙ ap (λ k. k + n) c.loop.invariant.given in
    let all = cut_none n c.loop.given c.min-kept.result c.min-kept.ensures (goes_on c.do_piece-done.result _ (sym c.end_after.ensures ∙ c.in_default-end_after.is)) in
    let start = g.B.Asked.start in
    let o = (g.S.Shelf.seen c.args.shelf.now).files in
    let v = own_of c.args.seat.now.pass in
    let m = own_of c.loop.seat.pass in
    let u = own_of c.do_piece-done.new.seat.pass in
    let b = g.E.Sink.seen c.loop.err in
    let e = g.E.Sink.seen c.do_piece-done.new.err in
    let same = room_is c.loop.room.len c.read.new.room _ c.deref.result.now c.deref.ensures.value (c.read.auto.room ∙ c.deref_mut.ensures.len) in
    let within : n ≤ length c.deref.result.now = omega (arith, c.in-Ok-read.ensures.within, ap (λ (xs : List ℕ). length xs) same) in
    let ok = goes_ok c.do_piece-done.result _ (sym c.end_after.ensures ∙ c.in_default-end_after.is) in
    record {
      can = tt;
      finite = tt;
      lock = c.do_piece-done.ensures.lock ∙ c.loop.invariant.lock;
      seat = c.do_piece-done.ensures.seat;
      room = c.loop.invariant.room;
      few = omega (arith, c.min-kept.ensures, c.loop.invariant.few);
      given = omega (arith, gave, all);
      shelf = shelf_then (g.S.Shelf.seen c.args.shelf.now) (g.S.Shelf.seen c.loop.shelf) (g.S.Shelf.seen c.do_piece-done.new.shelf) c.loop.invariant.shelf c.do_piece-done.ensures.shelf;
      err = sink_then (g.E.Sink.seen c.args.err.now) (g.E.Sink.seen c.loop.err) (g.E.Sink.seen c.do_piece-done.new.err) c.loop.invariant.err c.do_piece-done.ensures.err;
      control = source_gave n c.read.new.room x z w c.loop.invariant.control c.in-Ok-read.ensures.within c.in-Ok-read.ensures.gave;
      calm = (
        (line_sound c.do_piece-done.result _ _ (err_none c.do_piece-done.result ok) c.do_piece-done.ensures.stops).0 ∙ c.loop.invariant.calm.0,
        (line_sound c.do_piece-done.result _ _ (err_none c.do_piece-done.result ok) c.do_piece-done.ensures.stops).1 ∙ c.loop.invariant.calm.1,
        c.in-Ok-read.ensures.gave.sound ∙ c.loop.invariant.calm.2,
      );
      before = omega (arith, c.do_piece-done.ensures.few, c.loop.invariant.before, length-take c.min-kept.result c.deref.result.now, cut_whole n c.loop.given c.min-kept.result (length c.deref.result.now) _ c.min-kept.ensures within (length-take c.min-kept.result c.deref.result.now));
      eaten = eaten_next o start c.loop.given (c.loop.given + c.min-kept.result) c.loop.reader c.do_piece-done.new.reader x.left z.left w.left v m u (g.E.Sink.seen c.args.err.now) b e (take c.min-kept.result c.deref.result.now) c.loop.invariant.eaten
          (all_gives c.min-kept.result n c.read.new.room c.deref.result.now z.left w.left same all c.in-Ok-read.ensures.gave.left)
          (done_ok c.do_piece-done.result ok c.do_piece-done.ensures.read)
          (cut_whole n c.loop.given c.min-kept.result (length c.deref.result.now) _ c.min-kept.ensures within (length-take c.min-kept.result c.deref.result.now))
          (if_map o (λ files h. does_ok c.do_piece-done.result (err_none c.do_piece-done.result ok) h)
          (subst (λ (p : Option (List StoredFile)). IfSome p (λ files. DoesSo c.do_piece-done.result (piece_did files (jobs_known start m) c.loop.reader (take c.min-kept.result c.deref.result.now)) (used m u) (used b e))) c.loop.invariant.shelf.files c.do_piece-done.ensures.did));
    }
