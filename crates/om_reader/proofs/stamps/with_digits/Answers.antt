use Rattle.std.proofs.Common.{◌≡◌, ◌+◌, ◌*◌, ◌-◌, ◌∙◌, arith, sym, drop, get_or, refl}
use Rattle.std.specs.Str.Parse.{digits_value_after}
use Rattle.om_reader.proofs.CountLemmas.{value-end, value-grows, value-step, digit-at}
use Rattle.om_reader.proofs.stamps.with_digits.Goals as goal

pub returns-in-None : goal.returns-in-None
returns-in-None c = λ less.
    (let ds = c.args.digits.now in
    let i = c.loop-digit.digit-index in
    let d = get_or ds i 0 in
    let r = digit-at ds i c.requires c.loop-digit-test.true in
    let step = value-step c.loop-digit.count i d ds c.loop-digit-test.true refl r.0 r.1 in
    let grows = value-grows (c.loop-digit.count * 10 + (d - 48)) (drop (i + 1) ds) in
    c.in-None.ensures (omega (arith, less, grows, step, c.loop-digit.invariant.known)))

pub returns : goal.returns
returns c =
    let whole : c.loop-digit.count ≡ digits_value_after 10 c.args.number c.args.digits.now =
    sym (value-end c.loop-digit.count c.loop-digit.digit-index c.args.digits.now c.loop-digit-test.false) ∙ c.loop-digit.invariant.known in
    (omega (arith, whole, c.loop-digit.invariant.small), whole)
