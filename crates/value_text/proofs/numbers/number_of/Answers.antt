use Rattle.value_text.proofs.NumberLemmas.{number-parsed, digits-utf8}
use Rattle.value_text.proofs.numbers.number_of.Goals as goal

pub returns-in-Ok : goal.returns-in-Ok
returns-in-Ok c =
    rw c.ok.ensures.value (number-parsed c.args.digits.now c.parse.result c.requires.some c.requires.digits (rw c.in-Ok.ensures.cases.0 at c.parse.ensures.value.0))

pub returns-in-Err : goal.returns-in-Err
returns-in-Err c = λ less. absurd (c.in-Err.ensures.cases.0 (digits-utf8 c.args.digits.now c.requires.digits))
