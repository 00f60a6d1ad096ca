use Rattle.hc_serve.proofs.Common.{◌∙◌}
use Rattle.hc_serve.proofs.Passes.{pass_more, pass_faults}
use Rattle.hc_serve.proofs.Costs.{last_costs, pass_costs}
use Rattle.hc_serve.proofs.way.passes.Goals as goal

pub returns-in_err-left-clause-step : goal.returns-in_err-left-clause-step
returns-in_err-left-clause-step g c =
    pass_faults _ _ _ _ _ _ _ _ _ _ _ c.loop-turn.invariant.0 c.loop-turn-test.true c.in_err-left.ensures.step
    c.from_residual.ensures.1

pub loop-turn-preserved : goal.loop-turn-preserved
loop-turn-preserved g c = (
  pass_more _ _ _ _ _ _ _ _ _ _ c.loop-turn.invariant.0 c.loop-turn-test.true c.in_ok-left.ensures.step,
  c.passed.ensures.over.0 ∙ c.loop-turn.invariant.1,
  λ each is. c.passed.ensures.over.1 each (c.loop-turn.invariant.2 each is),
  pass_costs _ _ _ _ _ _ _ _ _ _ _ c.loop-turn-test.true c.loop-turn.invariant.3 c.in_ok-left.ensures.step
      c.in_ok-left.ensures.counted,
)

pub returns-in_err-left-clause-counted : goal.returns-in_err-left-clause-counted
returns-in_err-left-clause-counted g c =
    last_costs _ _ _ _ _ _ _ _ _ _ _ c.loop-turn-test.true c.loop-turn.invariant.3 c.from_residual.ensures.1
    c.in_err-left.ensures.counted
