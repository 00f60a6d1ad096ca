use Rattle.hc_merge.specs.Reaching.{chained}
use Rattle.hc_abs_force.specs.Asking.{exprs, holding}
use Rattle.hc_abs_force.specs.Marking.{AnswersFor, AreTried}
use Rattle.hc_abs_force.proofs.asking.all_held.Given as goal

abbrev pub invariant-loop-one : goal.invariant-loop-one
invariant-loop-one l =
    AreTried (AnswersFor l.scene (holding (chained (exprs l.chain) l.expr))) l.parent l.yielded l.later.items
