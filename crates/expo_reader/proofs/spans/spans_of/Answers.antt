use Rattle.std.proofs.Common.{◌≡◌, ◌≤◌, ◌<◌, ◌+◌, ◌∙◌, [], arith, sym, ap, length, length-drop, length-take, take, drop}
use Rattle.std.proofs.lemmas.List.{nil_from_length}
use Rattle.std.proofs.lemmas.List.Elements.{All-nil}
use Rattle.std.proofs.lemmas.Bool.Decides.{nat_tests}
use Rattle.expo_reader.specs.Bodies.{reading, rows_from, lines_of, joined}
use Rattle.expo_reader.specs.Spans.{rows_seen, IsWithin}
use Rattle.expo_reader.proofs.LineLemmas.{rows-fault, rows-end}
use Rattle.expo_reader.proofs.LikeLemmas.{like-seen, none-like}
use Rattle.expo_reader.proofs.SpanLemmas.{seen-nil, seen-start, some-rest, inside-end, start-end, line-seen, within-push}
use Rattle.expo_reader.proofs.spans.spans_of.Goals as goal

pub loop-place-init : goal.loop-place-init
loop-place-init g c = record {
  known = seen-start c.args.body.now c.in_ok-spans.spans.rows.items (rows_from c.args.form 1 (lines_of c.args.body.now)) c.in_ok-spans.ensures.rows;
  within = rw c.in_ok-spans.ensures.rows (All-nil (IsWithin (length c.args.body.now)));
  like = none-like (g.T.RawTexts.texts c.args.like.now) c.in_ok-spans.spans.places.items (rows_seen c.args.body.now c.in_ok-spans.spans.rows.items) c.in_ok-spans.ensures.places
      (ap (rows_seen c.args.body.now) c.in_ok-spans.ensures.rows ∙ seen-nil c.args.body.now);
  near = omega arith;
  few = omega arith;
}

pub returns-in-Err-clause-cause : goal.returns-in-Err-clause-cause
unfolding reading
returns-in-Err-clause-cause g c =
    let body = c.args.body.now in
    let rest = c.behind-rest.result.now in
    let lt : c.loop-place.place < length body = grind (arith, nat_tests, c.loop-place-test.true) in
    rows-fault c.args.form (rows_seen body c.loop-place.spans.rows.items) c.loop-place.number c.in-Err.cause rest _
    (λ e. some-rest body c.loop-place.place lt (sym c.behind-rest.ensures ∙ e))
    (rw c.line_end-end.ensures.value at c.in-Err.ensures.said)
    (ap (λ b. joined (rows_seen body c.loop-place.spans.rows.items) (rows_from c.args.form c.loop-place.number (lines_of b))) c.behind-rest.ensures ∙ c.loop-place.invariant.known)

pub loop-place-preserved : goal.loop-place-preserved
loop-place-preserved g c =
    let body = c.args.body.now in
    let rest = c.behind-rest.result.now in
    let place = c.loop-place.place in
    let end = c.line_end-end.result in
    let lt : place < length body = grind (arith, nat_tests, c.loop-place-test.true) in
    let room : place + end ≤ length body = omega (arith, lt, c.line_end-end.ensures.within, ap length c.behind-rest.ensures, length-drop place body) in
    let len : length (take end rest) ≡ end = omega (arith, c.line_end-end.ensures.within, length-take end rest) in
    let inside = inside-end (length (take end rest)) end c.in-Ok.parts len c.in-Ok.ensures.inside in
    let new = c.in_ok-push-in-Ok.ensures.rows in
    record {
      known = line-seen c.args.form body rest c.loop-place.spans.rows.items c.push.new.self.rows.items c.loop-place.number place end c.in-Ok.parts c.behind-rest.ensures lt c.line_end-end.ensures.value
          (start-end end c.in-Ok.parts inside) new c.in-Ok.ensures.said _ c.loop-place.invariant.known;
      within = rw new (within-push body c.loop-place.spans.rows.items c.loop-place.number place end c.in-Ok.parts room inside c.loop-place.invariant.within);
      like = like-seen (g.T.RawTexts.texts c.args.like.now) body rest c.loop-place.spans.rows.items c.push.new.self.rows.items c.loop-place.number place end c.in-Ok.found c.in-Ok.parts c.behind-rest.ensures
          (start-end end c.in-Ok.parts inside) new c.loop-place.spans.places.items c.push.new.self.places.items c.in_ok-push-in-Ok.ensures.places c.in-Ok.ensures.like c.loop-place.invariant.like;
      near = omega (arith, room);
      few = omega (arith, c.loop-place.invariant.few);
    }

pub returns-clause-read : goal.returns-clause-read
unfolding reading
returns-clause-read g c =
    let body = c.args.body.now in
    let place = c.loop-place.place in
    let zero_long : length (drop place body) ≡ 0 = grind (arith, nat_tests, c.loop-place-test.false, length-drop place body) in
    let none : drop place body ≡ [] = nil_from_length (drop place body) zero_long in
    rows-end c.args.form (rows_seen body c.loop-place.spans.rows.items) c.loop-place.number _ (rw none at c.loop-place.invariant.known)
