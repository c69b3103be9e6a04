use Rattle.scrape_laws.proofs.StretchLemmas.{runs_law}
use Rattle.scrape_laws.proofs.laws.stretches.Goals as goal

pub returns : goal.returns
returns c x scrapes = runs_law x scrapes
