use Rattle.pattern_rule.specs.Patterns.{reading, is_pattern}
use Rattle.pattern_rule.proofs.TestLemmas.{fits-read, read-fits, refused-unfit, unfit-refused}
use Rattle.pattern_rule.proofs.pattern.read_or_refused.Goals as goal

pub returns-clause-read : goal.returns-clause-read
unfolding is_pattern
returns-clause-read c = λ text. (fits-read (reading text), read-fits (reading text))

pub returns-clause-refused : goal.returns-clause-refused
unfolding is_pattern
returns-clause-refused c = λ text. (unfit-refused (reading text), refused-unfit (reading text))
