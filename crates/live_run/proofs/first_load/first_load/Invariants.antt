use Rattle.live_run.proofs.first_load.first_load.Given as goal

abbrev pub ghosts-load_from : goal.ghosts-load_from
ghosts-load_from g a = record { name = a.blank.name; parts = 1 }
