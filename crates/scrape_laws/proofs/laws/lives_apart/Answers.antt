use Rattle.scrape_laws.proofs.ApartLemmas.{apart_law}
use Rattle.scrape_laws.proofs.MeetLemmas.{apart_runs_law}
use Rattle.scrape_laws.proofs.laws.lives_apart.Goals as goal

pub returns-clause-event : goal.returns-clause-event
returns-clause-event c journal e = apart_law journal e

pub returns-clause-runs : goal.returns-clause-runs
returns-clause-runs c journal other = apart_runs_law journal other
