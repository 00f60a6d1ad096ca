use Rattle.hc_tests_sessions.proofs.session.session_within.Given as goal

abbrev pub ghosts-served-E-Ledger : goal.ghosts-served-E-Ledger
ghosts-served-E-Ledger a = record { name = a.for_evals.name; parts = a.for_evals.parts }

abbrev pub ghosts-served-B-Ledger : goal.ghosts-served-B-Ledger
ghosts-served-B-Ledger a = record { name = a.for_bytes.name; parts = a.for_bytes.parts }
