use Rattle.scrape_laws.proofs.StartLemmas.{finish_law}
use Rattle.scrape_laws.proofs.TicketLemmas.{unstarted_law}
use Rattle.scrape_laws.proofs.laws.finishes.Goals as goal

pub returns-clause-started : goal.returns-clause-started
returns-clause-started c w e n f es s = finish_law w e n f es s

pub returns-clause-unstarted : goal.returns-clause-unstarted
returns-clause-unstarted c journal = unstarted_law journal
