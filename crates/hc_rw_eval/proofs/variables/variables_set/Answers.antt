use Rattle.hc_rw_eval.proofs.Common.{item_faults, item_more, refl}
use Rattle.hc_rw_eval.specs.Substitutions.{variables_set}
use Rattle.hc_rw_eval.proofs.variables.variables_set.Goals as goal

pub returns-in_err-state : goal.returns-in_err-state
unfolding variables_set
returns-in_err-state g c =
    item_faults _ _ _ _ _ _ _ _ _ _ _ _ _ c.loop-set.invariant c.loop-set-test.true c.set-item.is c.in_err-state.ensures
    refl
    c.from_residual.ensures.1

pub loop-set-preserved : goal.loop-set-preserved
loop-set-preserved g c =
    item_more _ _ _ _ _ _ _ _ _ _ _ _ c.loop-set.invariant c.loop-set-test.true c.set-item.is c.in_ok-state.ensures refl
