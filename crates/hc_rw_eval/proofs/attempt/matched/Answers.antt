use Rattle.hc_rw_eval.proofs.Common.{refl, ran_leaves, ran_off, ran_said, ran_then}
use Rattle.hc_rw_eval.specs.Attempts.{matched}
use Rattle.hc_rw_eval.proofs.attempt.matched.Goals as goal

pub returns-in_err-left : goal.returns-in_err-left
unfolding matched
returns-in_err-left g c =
    ran_said _ _ _ _ _ _ _ c.in_ok-tell_rule.ensures
    (ran_off _ _ _ _ _ _ _ _ c.from_residual-in_err-left.ensures.1 c.in_err-left.ensures refl)

pub returns : goal.returns
unfolding matched
returns g c =
    ran_said _ _ _ _ _ _ _ c.in_ok-tell_rule.ensures
    (ran_then _ _ _ _ _ _ _ _ c.in_ok-left.ensures (ran_leaves _ _ _ _ _ refl))
