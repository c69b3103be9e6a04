use Rattle.std.proofs.Common.{◌<◌, ◌≤◌, ◌+◌, ◌∙◌, arith, sym, length, drop}
use Rattle.std.proofs.lemmas.Bool.Decides.{nat_tests}
use Rattle.om_reader.specs.Bodies.{ended, reading}
use Rattle.expo_reader.specs.Bodies.{lines_of}
use Rattle.om_reader.proofs.LineLemmas.{converted-start, end-said, loop-end, loop-fault, loop-more, loop-near, no-end}
use Rattle.om_reader.proofs.bodies.convert_lines.Goals as goal

pub loop-place-init : goal.loop-place-init
loop-place-init c = record {
  known = converted-start c.args.text.now.items c.args.body.now;
  near = omega arith;
  few = omega arith;
}

pub returns-then-is_eof : goal.returns-then-is_eof
returns-then-is_eof c =
    let body = c.args.body.now in
    let h = c.loop-place.invariant.known in
    let place = c.loop-place.place in
    let end = c.line_end-end.result in
    let lt : place < length body = grind (arith, nat_tests, c.loop-place-test.true) in
    end-said c.ended.result c.args.text.now.items c.loop-place.text.items h.rows (ended c.loop-place.number (lines_of (drop (place + (end + 1)) body))) (reading body) h.items
    (loop-end c.args.text.now.items c.loop-place.text.items body c.behind-rest.result.now c.loop-place.number place end (reading body) c.behind-rest.ensures lt c.line_end-end.ensures.value h
    (sym c.is_eof.ensures ∙ c.if-is_eof.true))
    c.ended.ensures

pub returns-in-Err : goal.returns-in-Err
returns-in-Err c =
    let body = c.args.body.now in
    let h = c.loop-place.invariant.known in
    let place = c.loop-place.place in
    let lt : place < length body = grind (arith, nat_tests, c.loop-place-test.true) in
    loop-fault c.args.text.now.items c.loop-place.text.items body c.behind-rest.result.now c.loop-place.number place c.line_end-end.result (reading body) c.behind-rest.ensures lt
    c.line_end-end.ensures.value h c.in-Err.error (sym c.is_eof.ensures ∙ c.if-is_eof.false) c.in-Err.ensures

pub loop-place-preserved : goal.loop-place-preserved
loop-place-preserved c =
    let body = c.args.body.now in
    let h = c.loop-place.invariant.known in
    let place = c.loop-place.place in
    let end = c.line_end-end.result in
    let rest = c.behind-rest.result.now in
    let lt : place < length body = grind (arith, nat_tests, c.loop-place-test.true) in
    let row = c.in-Ok.ensures in
    record {
      known = loop-more c.args.text.now.items c.loop-place.text.items body rest c.loop-place.number place end (reading body) c.behind-rest.ensures lt c.line_end-end.ensures.value h
          row.0 c.convert_line.new.text.items (sym c.is_eof.ensures ∙ c.if-is_eof.false) row.1 row.2;
      near = loop-near c.args.text.now.items c.loop-place.text.items body rest c.loop-place.number place end (reading body) c.behind-rest.ensures lt c.line_end-end.ensures.value h c.line_end-end.ensures.within;
      few = omega (arith, c.loop-place.invariant.few);
    }

pub returns : goal.returns
returns c =
    let h = c.loop-place.invariant.known in
    let over : length c.args.body.now ≤ c.loop-place.place = grind (arith, nat_tests, c.loop-place-test.false) in
    no-end h.rows c.loop-place.number c.loop-place.place c.args.body.now (reading c.args.body.now) h.known over
