use Rattle.tests_reading.proofs.rules.left_by.Given as goal

abbrev pub ghosts-left_counted : goal.ghosts-left_counted
ghosts-left_counted a = record { name = a.blank.name; parts = a.blank.parts }
