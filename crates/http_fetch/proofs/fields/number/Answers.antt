use Rattle.std.proofs.Common.{◌≡◌, ◌∙◌, sym, ap, arith, drop, [], drop_of_length-le, get_or, length}
use Rattle.std.specs.List.{list_all}
use Rattle.std.specs.Char.{is_ascii_digit}
use Rattle.std.specs.Str.Parse.{digits_value_after}
use Rattle.std.proofs.lemmas.Bool.Decides.{nat_tests}
use Rattle.http_fetch.proofs.FieldLemmas.{number-empty, number-other, number-big, number-there, not-digit, too-big, digit-value}
use Rattle.http_fetch.proofs.fields.number.Goals as goal

pub returns-then-is_empty : goal.returns-then-is_empty
returns-then-is_empty c = number-empty c.args.text.now (let e : length c.args.text.now ≡ 0 = grind (arith, nat_tests) in e)

pub returns-then-not-is_ascii_digit : goal.returns-then-not-is_ascii_digit
returns-then-not-is_ascii_digit c = number-other c.args.text.now (not-digit c.args.text.now c.loop-digit.digit-index c.loop-digit-test.true (sym c.is_ascii_digit.ensures.value ∙ c.if-not-is_ascii_digit.true) c.loop-digit.invariant.digits)

pub returns-in-None : goal.returns-in-None
returns-in-None c = number-big c.args.text.now (too-big c.args.text.now c.loop-digit.digit-index c.loop-digit.number c.loop-digit-test.true (digit-value (get_or c.args.text.now c.loop-digit.digit-index 0) (sym c.is_ascii_digit.ensures.value ∙ c.if-not-is_ascii_digit.false)) c.in-None.ensures c.loop-digit.invariant.value)

pub returns : goal.returns
returns c =
    let none : drop c.loop-digit.digit-index c.args.text.now ≡ [] = drop_of_length-le c.args.text.now c.loop-digit-test.false in
    number-there c.args.text.now c.loop-digit.number c.loop-digit.invariant.some
    (sym c.loop-digit.invariant.digits ∙ ap (list_all is_ascii_digit) none)
    (sym c.loop-digit.invariant.value ∙ ap (digits_value_after 10 c.loop-digit.number) none)
    c.loop-digit.invariant.few
