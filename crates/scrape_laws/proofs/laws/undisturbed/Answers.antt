use Rattle.scrape_laws.proofs.UndisturbedLemmas.{undisturbed_law, idle_law}
use Rattle.scrape_laws.proofs.RefusedLemmas.{refused_law}
use Rattle.scrape_laws.proofs.laws.undisturbed.Goals as goal

pub returns-clause-nothing : goal.returns-clause-nothing
returns-clause-nothing c journal e = undisturbed_law journal e

pub returns-clause-idle : goal.returns-clause-idle
returns-clause-idle c journal e = idle_law journal e

pub returns-clause-refused : goal.returns-clause-refused
returns-clause-refused c journal e = refused_law journal e
