use Rattle.hc_abs_force.proofs.Answering.{marked_more}
use Rattle.hc_abs_force.proofs.marking.all_marked.Goals as goal

pub loop-one-preserved : goal.loop-one-preserved
loop-one-preserved c =
    marked_more c.args.marks.now c.loop-one.yielded c.in-Some.one c.loop-one.found.items c.push.new.self.items
    c.in_ok-marked.field-0 c.loop-one.invariant c.in_ok-push.ensures.items c.in_ok-marked.ensures
