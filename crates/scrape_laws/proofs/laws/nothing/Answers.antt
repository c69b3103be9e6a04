use Rattle.scrape_laws.proofs.NothingLemmas.{nothing_law}
use Rattle.scrape_laws.proofs.OwnLemmas.{ticket_law}
use Rattle.scrape_laws.proofs.laws.nothing.Goals as goal

pub returns-clause-list : goal.returns-clause-list
returns-clause-list c w e = nothing_law w e

pub returns-clause-tickets : goal.returns-clause-tickets
returns-clause-tickets c journal = ticket_law journal
