use Rattle.hc_abs_force.specs.Marking.{AreMarked}
use Rattle.hc_abs_force.proofs.marking.all_marked.Given as goal

abbrev pub invariant-loop-one : goal.invariant-loop-one
invariant-loop-one l = AreMarked l.marks l.yielded l.found.items
