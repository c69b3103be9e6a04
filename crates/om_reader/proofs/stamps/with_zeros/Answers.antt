use Rattle.std.proofs.Common.{◌≡◌, ◌*◌, ◌^◌, ◌∙◌, ap, arith}
use Rattle.om_reader.proofs.CountLemmas.{ten-below, ten-next}
use Rattle.om_reader.proofs.stamps.with_zeros.Goals as goal

pub loop-done-preserved : goal.loop-done-preserved
loop-done-preserved c = record {
  known = c.in-Some.ensures.1 ∙ ap (λ n. n * 10) c.loop-done.invariant.known ∙ ten-next c.args.number c.loop-done.done;
  small = omega (arith, c.in-Some.ensures.0, c.in-Some.ensures.1);
}

pub returns-in-None : goal.returns-in-None
returns-in-None c = λ less.
    (let more = ten-below c.args.number c.loop-done.done c.args.zeros c.loop-done-test.true in
    c.in-None.ensures (omega (arith, less, more, c.loop-done.invariant.known)))

pub returns : goal.returns
returns c =
    let same : c.loop-done.done ≡ c.args.zeros = omega (arith, c.loop-done-test.false, c.loop-done.auto.done-end) in
    let whole : c.loop-done.count ≡ c.args.number * 10 ^ c.args.zeros = c.loop-done.invariant.known ∙ ap (λ k. c.args.number * 10 ^ k) same in
    (omega (arith, whole, c.loop-done.invariant.small), whole)
