use Rattle.std.proofs.Common.{arith}
use Rattle.std.specs.Str.Parse.{digits_value}
use Rattle.value_text.proofs.DurationLemmas.{less-by_unit}
use Rattle.value_text.proofs.durations.longer.Goals as goal

pub returns-in_err-number_of : goal.returns-in_err-number_of
returns-in_err-number_of c =
    let less = less-by_unit (digits_value 10 c.args.digits.now) c.args.unit in
    rw c.from_residual.ensures (λ within. (rw c.in_err-number_of.was at c.number_of.ensures) (omega arith))
