use Rattle.appender_book.proofs.LawLemmas.{verdicts_stand, kept_rise}
use Rattle.appender_book.proofs.verdicts.laws_of_verdicts.Goals as goal

pub returns-clause-stand : goal.returns-clause-stand
returns-clause-stand c = verdicts_stand

pub returns-clause-rise : goal.returns-clause-rise
returns-clause-rise c = kept_rise
