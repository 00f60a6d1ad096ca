use Rattle.hc_tests_requests.proofs.chains.chain_in.Given as goal

abbrev pub ghosts-followed-E-Ledger : goal.ghosts-followed-E-Ledger
ghosts-followed-E-Ledger g a = record { name = a.for_evals.name; parts = a.for_evals.parts }

abbrev pub ghosts-followed-B-Ledger : goal.ghosts-followed-B-Ledger
ghosts-followed-B-Ledger g a = record { name = a.for_bytes.name; parts = a.for_bytes.parts }
