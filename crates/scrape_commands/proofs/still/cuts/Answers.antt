use Rattle.scrape_commands.proofs.CutLemmas.{cut_law}
use Rattle.scrape_commands.proofs.still.cuts.Goals as goal

pub returns : goal.returns
returns _ = cut_law
