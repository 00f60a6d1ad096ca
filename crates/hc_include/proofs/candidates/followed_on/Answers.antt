use Rattle.hc_include.proofs.Common.{refl, item_faults, item_more, followed}
use Rattle.hc_include.proofs.candidates.followed_on.Goals as goal

pub returns-in_err-paths : goal.returns-in_err-paths
returns-in_err-paths c =
    item_faults followed c.loop-component.paths c.component-item.result c.args.components.now
    c.loop-component.component-index _ _ _ _ _ _ _ _ c.loop-component.invariant c.loop-component-test.true
    c.component-item.is c.in_err-paths.ensures refl c.from_residual.ensures.1

pub loop-component-preserved : goal.loop-component-preserved
loop-component-preserved c =
    item_more followed c.loop-component.paths _ c.component-item.result c.args.components.now
    c.loop-component.component-index _ _ _ _ _ _ c.loop-component.invariant c.loop-component-test.true
    c.component-item.is c.in_ok-paths.ensures refl
