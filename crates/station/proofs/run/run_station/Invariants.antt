use Rattle.std.specs.Prelude.{vec_len}
use Rattle.station.proofs.run.run_station.Given as goal

abbrev pub ghosts-run_with-L-Ledger : goal.ghosts-run_with-L-Ledger
ghosts-run_with-L-Ledger g a = record { name = a.blank.name; parts = a.blank.parts }

abbrev pub ghosts-run_with-B-Asked : goal.ghosts-run_with-B-Asked
ghosts-run_with-B-Asked g a = record { workers = vec_len a.fetchers; turns = a.turns; start = a.core }
