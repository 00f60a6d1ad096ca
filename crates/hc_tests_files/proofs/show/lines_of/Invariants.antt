use Rattle.hc_tests_files.proofs.show.lines_of.Given as goal

abbrev pub ghosts-count_lines : goal.ghosts-count_lines
ghosts-count_lines a = record { name = a.blank.name; parts = a.blank.parts }
