use Rattle.hc_rw_eval.proofs.Common.{refl, ran_off, ran_then}
use Rattle.hc_rw_eval.specs.Turns.{rule_held}
use Rattle.hc_rw_eval.proofs.round.rule_held.Goals as goal

pub returns-in_err-attempt : goal.returns-in_err-attempt
unfolding rule_held
returns-in_err-attempt g c =
    ran_off _ _ _ _ _ _ _ _ c.from_residual.ensures.1 (rw c.is_followed.ensures at c.in_err-attempt.ensures) refl

pub returns : goal.returns
unfolding rule_held
returns g c = ran_then _ _ _ _ _ _ _ _ (rw c.is_followed.ensures at c.in_ok-attempt.ensures) (c.turned.ensures _ _)
