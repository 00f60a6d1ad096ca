use Rattle.hc_kept_lines.specs.Places.{IsBehind}
use Rattle.hc_tests_files.proofs.kept.after_lines.Given as goal

abbrev pub invariant-loop : goal.invariant-loop
invariant-loop l = IsBehind l.text l.counter l.at
