use Rattle.scrape_laws.proofs.LateLemmas.{late_law}
use Rattle.scrape_machine.specs.Machine.{world_of}
use Rattle.scrape_laws.proofs.laws.late.Goals as goal

pub returns-clause-worlds : goal.returns-clause-worlds
returns-clause-worlds c w = late_law w

pub returns-clause-fronts : goal.returns-clause-fronts
returns-clause-fronts c journal front behind is = late_law (world_of front)
