use Rattle.hc_tests_requests.proofs.answers.answers_in.Given as goal

abbrev pub ghosts-answered-E-Ledger : goal.ghosts-answered-E-Ledger
ghosts-answered-E-Ledger g a = record { name = a.for_evals.name; parts = a.for_evals.parts }

abbrev pub ghosts-answered-B-Ledger : goal.ghosts-answered-B-Ledger
ghosts-answered-B-Ledger g a = record { name = a.for_bytes.name; parts = a.for_bytes.parts }
