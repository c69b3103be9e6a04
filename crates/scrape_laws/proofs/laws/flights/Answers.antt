use Rattle.scrape_laws.proofs.StartLemmas.{flight_law}
use Rattle.scrape_laws.proofs.laws.flights.Goals as goal

pub returns : goal.returns
returns c w e n f es s = flight_law w e n f es s
