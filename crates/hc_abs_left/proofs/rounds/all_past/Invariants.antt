use Rattle.std.specs.Rc.{rc_value}
use Rattle.hc_abs_left.specs.Rounds.{ArePast}
use Rattle.hc_abs_left.proofs.rounds.all_past.Given as goal

abbrev pub invariant-loop-one : goal.invariant-loop-one
invariant-loop-one l = ArePast l.ground (rc_value l.settings) l.yielded l.found.items
