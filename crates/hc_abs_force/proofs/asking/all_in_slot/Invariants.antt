use Rattle.hc_abs_force.specs.Marking.{AnswersSlot, AreTried}
use Rattle.hc_abs_force.proofs.asking.all_in_slot.Given as goal

abbrev pub invariant-loop-one : goal.invariant-loop-one
invariant-loop-one l = AreTried (AnswersSlot l.slot l.set) l.parent l.yielded l.later.items
