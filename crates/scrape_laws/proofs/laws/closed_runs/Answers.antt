use Rattle.scrape_laws.proofs.RunLemmas.{closed_runs_law}
use Rattle.scrape_laws.proofs.laws.closed_runs.Goals as goal

pub returns : goal.returns
returns c journal n x = closed_runs_law journal n x
