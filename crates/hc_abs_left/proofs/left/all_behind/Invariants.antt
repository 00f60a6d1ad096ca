use Rattle.hc_abs_left.specs.Left.{AreBehind}
use Rattle.hc_abs_left.proofs.left.all_behind.Given as goal

abbrev pub invariant-loop-one : goal.invariant-loop-one
invariant-loop-one l = AreBehind l.ground l.settings l.decisions l.ran l.yielded l.found.items
