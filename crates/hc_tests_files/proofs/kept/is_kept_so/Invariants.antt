use Rattle.hc_tests_files.proofs.kept.is_kept_so.Given as goal

abbrev pub ghosts-is_kept : goal.ghosts-is_kept
ghosts-is_kept a = record { name = a.blank.name; parts = a.blank.parts }
