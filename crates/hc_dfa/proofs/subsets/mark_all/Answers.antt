use Rattle.hc_dfa.proofs.Closures.{marks_more}
use Rattle.hc_dfa.proofs.subsets.mark_all.Goals as goal

pub loop-step-preserved : goal.loop-step-preserved
loop-step-preserved c =
    marks_more c.args.steps.now c.loop-step.step-index _ _ _ _ c.loop-step-test.true c.loop-step.invariant
    c.mark.ensures
