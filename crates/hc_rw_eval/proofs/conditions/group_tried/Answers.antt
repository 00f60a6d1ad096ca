use Rattle.hc_rw_eval.proofs.Common.{item_faults, item_more, refl}
use Rattle.hc_rw_eval.specs.Conditions.{group_tried}
use Rattle.hc_rw_eval.proofs.conditions.group_tried.Goals as goal

pub returns-in_err-tested : goal.returns-in_err-tested
unfolding group_tried
returns-in_err-tested g c =
    item_faults _ _ _ _ _ _ _ _ _ _ _ _ _ c.loop-cond.invariant c.loop-cond-test.true c.cond-item.is
    c.in_err-tested.ensures refl
    c.from_residual.ensures.1

pub loop-cond-preserved : goal.loop-cond-preserved
loop-cond-preserved g c =
    item_more _ _ _ _ _ _ _ _ _ _ _ _ c.loop-cond.invariant c.loop-cond-test.true c.cond-item.is c.in_ok-tested.ensures
    refl
