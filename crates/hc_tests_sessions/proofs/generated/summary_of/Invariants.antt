use Rattle.hc_tests_sessions.proofs.generated.summary_of.Given as goal

abbrev pub ghosts-summed-E-Ledger : goal.ghosts-summed-E-Ledger
ghosts-summed-E-Ledger a = record { name = a.for_evals.name; parts = a.for_evals.parts }

abbrev pub ghosts-summed-B-Ledger : goal.ghosts-summed-B-Ledger
ghosts-summed-B-Ledger a = record { name = a.for_bytes.name; parts = a.for_bytes.parts }
