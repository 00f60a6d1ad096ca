use Rattle.std.specs.Rc.{rc_value}
use Rattle.hc_abs_dir.specs.Behind.{AreBehind}
use Rattle.hc_abs_dir.proofs.forced.all_behind.Given as goal

abbrev pub invariant-loop-answer : goal.invariant-loop-answer
invariant-loop-answer l = AreBehind l.ground (rc_value l.settings) l.decisions l.yielded l.found.items
