use Rattle.scrape_laws.proofs.MeetLemmas.{reload_law}
use Rattle.scrape_laws.proofs.laws.reloads.Goals as goal

pub returns : goal.returns
returns c journal e = reload_law journal e
