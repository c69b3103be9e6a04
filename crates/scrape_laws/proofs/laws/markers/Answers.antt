use Rattle.scrape_laws.proofs.RunLemmas.{marker_law}
use Rattle.scrape_laws.proofs.laws.markers.Goals as goal

pub returns : goal.returns
returns c journal = marker_law journal
