use Rattle.hc_app.proofs.tests.run_over.Given as goal

abbrev pub ghosts-run_counted-E-Ledger : goal.ghosts-run_counted-E-Ledger
ghosts-run_counted-E-Ledger a = record { name = a.for_evals.name; parts = a.for_evals.parts }

abbrev pub ghosts-run_counted-B-Ledger : goal.ghosts-run_counted-B-Ledger
ghosts-run_counted-B-Ledger a = record { name = a.for_bytes.name; parts = a.for_bytes.parts }
