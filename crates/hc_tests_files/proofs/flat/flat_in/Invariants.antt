use Rattle.hc_tests_files.proofs.flat.flat_in.Given as goal

abbrev pub ghosts-flat_counted : goal.ghosts-flat_counted
ghosts-flat_counted a = record { name = a.blank.name; parts = a.blank.parts }
