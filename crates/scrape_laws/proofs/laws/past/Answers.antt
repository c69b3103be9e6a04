use Rattle.scrape_laws.proofs.RunLemmas.{past_law}
use Rattle.scrape_laws.proofs.laws.past.Goals as goal

pub returns : goal.returns
returns c journal = past_law journal
