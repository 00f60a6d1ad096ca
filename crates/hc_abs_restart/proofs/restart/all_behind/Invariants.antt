use Rattle.hc_abs_restart.specs.Following.{AreBehind}
use Rattle.hc_abs_restart.proofs.restart.all_behind.Given as goal

abbrev pub invariant-loop-one : goal.invariant-loop-one
invariant-loop-one l = AreBehind l.restart l.yielded l.found.items
