use Rattle.hc_abs_force.specs.Marking.{AnswersSlot, IsTried}
use Rattle.hc_abs_force.proofs.Each.{each_added}
use Rattle.hc_abs_force.proofs.asking.all_in_slot.Goals as goal

pub loop-one-preserved : goal.loop-one-preserved
loop-one-preserved c =
    each_added (IsTried (AnswersSlot c.args.slot.now c.args.set.now) c.args.parent) c.loop-one.yielded c.in-Some.one
    c.loop-one.later.items c.in_ok-found.found.items c.append.new.self.items c.loop-one.invariant
    c.in_ok-append.ensures.items c.in_ok-found.ensures
