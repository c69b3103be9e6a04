use Rattle.value_text.proofs.NumberLemmas.{front-ascii}
use Rattle.journal_text.proofs.numbers.field.Goals as goal

pub number_between-requires : goal.number_between-requires
number_between-requires c = rw c.digit_count-end.ensures.value (front-ascii c.args.bytes.now)
