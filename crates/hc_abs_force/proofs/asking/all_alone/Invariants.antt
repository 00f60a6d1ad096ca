use Rattle.hc_abs_force.specs.Marking.{AreAlone}
use Rattle.hc_abs_force.proofs.asking.all_alone.Given as goal

abbrev pub invariant-loop-one : goal.invariant-loop-one
invariant-loop-one l = AreAlone l.is l.yielded l.later.items
