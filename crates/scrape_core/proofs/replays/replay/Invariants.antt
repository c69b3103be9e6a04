use Rattle.scrape_core.proofs.replays.replay.Given as goal

abbrev pub ghosts-stepped_from : goal.ghosts-stepped_from
ghosts-stepped_from a = record { name = a.blank.name; parts = a.blank.parts }
