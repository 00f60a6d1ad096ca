use Rattle.hc_serve.proofs.Common.{refl, opened, ran_leaves, ran_off, ran_then}
use Rattle.hc_serve.proofs.way.opened.Goals as goal

pub returns-clause-step : goal.returns-clause-step
unfolding opened
returns-clause-step c =
    ran_then _ _ _ _ _ _ _ _ (c.in_ok-host.ensures.step _)
    (ran_then _ _ _ _ _ _ _ _ (c.in_ok-pass.ensures _) (ran_leaves _ _ _ _ _ refl))

pub returns-in_err-pass-clause-step : goal.returns-in_err-pass-clause-step
unfolding opened
returns-in_err-pass-clause-step c =
    ran_then _ _ _ _ _ _ _ _ (c.in_ok-host.ensures.step _)
    (ran_off _ _ _ _ _ _ _ _ c.from_residual-in_err-pass.ensures.1 (c.in_err-pass.ensures _) refl)
