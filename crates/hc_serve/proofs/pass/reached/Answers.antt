use Rattle.hc_serve.proofs.Common.{refl, reached, ran_then, ran_off}
use Rattle.hc_serve.proofs.Costs.{costs_behind}
use Rattle.hc_serve.proofs.pass.reached.Goals as goal
use Rattle.hc_serve.specs.Passing.{reached_from}
use Rattle.hc_steps.specs.Step.{◌>>=◌}

pub returns-in_err-placed-clause-step : goal.returns-in_err-placed-clause-step
unfolding reached reached_from ◌>>=◌
returns-in_err-placed-clause-step g c =
    ran_then _ _ _ _ _ _ _ _ (c.in_ok-pass.ensures _)
    (ran_off _ _ _ _ _ _ _ _ c.from_residual-in_err-placed.ensures.1 c.in_err-placed.ensures refl)

pub returns-in_err-named-clause-step : goal.returns-in_err-named-clause-step
unfolding reached reached_from ◌>>=◌
returns-in_err-named-clause-step g c =
    ran_then _ _ _ _ _ _ _ _ (c.in_ok-pass.ensures _)
    (ran_then _ _ _ _ _ _ _ _ c.in_ok-placed.ensures
    (ran_off _ _ _ _ _ _ _ _ c.from_residual-in_err-named.ensures.1 c.in_err-named.ensures refl))

pub returns-in_err-named-2-clause-step : goal.returns-in_err-named-2-clause-step
unfolding reached reached_from ◌>>=◌
returns-in_err-named-2-clause-step g c =
    ran_then _ _ _ _ _ _ _ _ (c.in_ok-pass.ensures _)
    (ran_then _ _ _ _ _ _ _ _ c.in_ok-placed.ensures
    (ran_then _ _ _ _ _ _ _ _ c.in_ok-named.ensures
    (ran_off _ _ _ _ _ _ _ _ c.from_residual-in_err-named-2.ensures.1 (c.in_err-named-2.ensures _) refl)))

pub returns-in_err-there-clause-step : goal.returns-in_err-there-clause-step
unfolding reached reached_from ◌>>=◌
returns-in_err-there-clause-step g c =
    ran_then _ _ _ _ _ _ _ _ (c.in_ok-pass.ensures _)
    (ran_then _ _ _ _ _ _ _ _ c.in_ok-placed.ensures
    (ran_then _ _ _ _ _ _ _ _ c.in_ok-named.ensures
    (ran_then _ _ _ _ _ _ _ _ (c.in_ok-named-2.ensures _)
    (ran_off _ _ _ _ _ _ _ _ c.from_residual-in_err-there.ensures.1 c.in_err-there.ensures refl))))

pub returns-clause-step : goal.returns-clause-step
unfolding reached reached_from ◌>>=◌
returns-clause-step g c =
    ran_then _ _ _ _ _ _ _ _ (c.in_ok-pass.ensures _)
    (ran_then _ _ _ _ _ _ _ _ c.in_ok-placed.ensures
    (ran_then _ _ _ _ _ _ _ _ c.in_ok-named.ensures
    (ran_then _ _ _ _ _ _ _ _ (c.in_ok-named-2.ensures _)
    (ran_then _ _ _ _ _ _ _ _ c.in_ok-there.ensures c.in_force.ensures.step))))

pub returns-clause-counted : goal.returns-clause-counted
unfolding reached reached_from ◌>>=◌
returns-clause-counted g c =
    costs_behind _ _ _ _ _ _ _ _ _ (c.in_ok-pass.ensures _)
    (costs_behind _ _ _ _ _ _ _ _ _ c.in_ok-placed.ensures
    (costs_behind _ _ _ _ _ _ _ _ _ c.in_ok-named.ensures
    (costs_behind _ _ _ _ _ _ _ _ _ (c.in_ok-named-2.ensures _)
    (costs_behind _ _ _ _ _ _ _ _ _ c.in_ok-there.ensures c.in_force.ensures.counted))))
