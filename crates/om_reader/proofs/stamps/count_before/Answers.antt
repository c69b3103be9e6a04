use Rattle.std.proofs.Common.{◌*◌, ◌^◌, ◌-◌, ◌<◌, ◌∙◌, ℕ, arith, sym, ap, subst, length}
use Rattle.std.specs.Char.{is_ascii_digit}
use Rattle.std.specs.List.{list_all}
use Rattle.std.specs.Option.{SomeIff}
use Rattle.std.specs.Str.Parse.{digits_value_after}
use Rattle.om_reader.proofs.CountLemmas.{both-less, counted, digits-front, first-less}
use Rattle.om_reader.proofs.stamps.count_before.Goals as goal

pub with_digits-requires : goal.with_digits-requires
with_digits-requires c = ap (list_all is_ascii_digit) c.front-whole.ensures ∙ digits-front c.args.place c.args.whole.now c.requires.whole

pub with_digits-requires-2 : goal.with_digits-requires-2
with_digits-requires-2 c =
    ap (list_all is_ascii_digit) c.front-part.ensures ∙ digits-front (c.args.place - length c.front-whole.result.now) c.args.part.now c.requires.part

pub returns-in_default : goal.returns-in_default
returns-in_default c = λ less.
    (let first = first-less c.args.place c.args.whole.now c.args.part.now c.front-whole.result.now c.front-whole.ensures in
    c.in_default.ensures (omega (arith, less, first)))

pub returns-in_default-with_digits : goal.returns-in_default-with_digits
returns-in_default-with_digits c = λ less.
    (let both = both-less c.args.place c.args.whole.now c.args.part.now c.front-whole.result.now c.front-part.result.now c.front-whole.ensures c.front-part.ensures in
    let value = ap (λ (v : ℕ). digits_value_after 10 v c.front-part.result.now) c.in-Some.ensures.1 in
    c.in_default-with_digits.ensures (omega (arith, less, both, value)))

pub returns : goal.returns
returns c =
    let value = c.in-Some-with_digits.ensures.1 ∙ ap (λ (v : ℕ). digits_value_after 10 v c.front-part.result.now) c.in-Some.ensures.1 in
    let count = ap (λ (v : ℕ). v * 10 ^ (c.args.place - length c.front-whole.result.now - length c.front-part.result.now)) value in
    let whole = counted c.args.place c.args.whole.now c.args.part.now c.front-whole.result.now c.front-part.result.now c.front-whole.ensures c.front-part.ensures in
    subst (λ (t : ℕ). SomeIff c.with_zeros.result (t < 2 ^ 64) t) (count ∙ sym whole) c.with_zeros.ensures
