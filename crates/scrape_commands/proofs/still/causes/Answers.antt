use Rattle.scrape_commands.proofs.EndLemmas.{causes_of, status_by}
use Rattle.scrape_commands.proofs.still.causes.Goals as goal

pub returns-clause-causes : goal.returns-clause-causes
returns-clause-causes _ = causes_of

pub returns-clause-statuses : goal.returns-clause-statuses
returns-clause-statuses _ = status_by
