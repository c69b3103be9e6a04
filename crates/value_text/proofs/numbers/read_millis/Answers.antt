use Rattle.std.proofs.Common.{sym, ◌∙◌, ap}
use Rattle.value_text.specs.Values.{is_digits}
use Rattle.value_text.proofs.NumberLemmas.{millis-other, signed_digits-utf8}
use Rattle.value_text.proofs.numbers.read_millis.Goals as goal

pub returns-then-not-is_digits : goal.returns-then-not-is_digits
returns-then-not-is_digits c = millis-other c.args.bytes.now (ap is_digits (sym c.without_sign.ensures) ∙ sym c.is_digits.ensures ∙ c.if-not-is_digits.true)

pub returns-in-Err : goal.returns-in-Err
returns-in-Err c = absurd (c.in-Err.ensures.cases.0 (signed_digits-utf8 c.args.bytes.now (ap is_digits (sym c.without_sign.ensures) ∙ sym c.is_digits.ensures ∙ c.if-not-is_digits.false)))
