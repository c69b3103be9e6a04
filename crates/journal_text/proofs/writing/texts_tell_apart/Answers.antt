use Rattle.journal_text.proofs.JournalLemmas.{begin_alike, one_journal, stand_apart}
use Rattle.journal_text.proofs.writing.texts_tell_apart.Goals as goal

pub returns-clause-journals : goal.returns-clause-journals
returns-clause-journals c = one_journal

pub returns-clause-fronts : goal.returns-clause-fronts
returns-clause-fronts c = begin_alike

pub returns-clause-events : goal.returns-clause-events
returns-clause-events c = stand_apart
