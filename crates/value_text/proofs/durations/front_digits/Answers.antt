use Rattle.value_text.proofs.NumberLemmas.{front-ascii}
use Rattle.value_text.proofs.durations.front_digits.Goals as goal

pub returns-clause-digits : goal.returns-clause-digits
returns-clause-digits c = rw c.digit_count.ensures.value (front-ascii c.args.bytes.now)
