use Rattle.hc_rw_eval.proofs.Common.{refl, ran_off, ran_then}
use Rattle.hc_rw_eval.specs.Substitutions.{applied}
use Rattle.hc_rw_eval.proofs.substitution.applied.Goals as goal

pub returns-in_err-state : goal.returns-in_err-state
unfolding applied
returns-in_err-state g c =
    ran_off _ _ _ _ _ _ _ _ c.from_residual.ensures.1 (rw c.as_slice.ensures at c.in_err-state.ensures) refl

pub returns : goal.returns
unfolding applied
returns g c = ran_then _ _ _ _ _ _ _ _ (rw c.as_slice.ensures at c.in_ok-state.ensures) c.unless_answered.ensures
