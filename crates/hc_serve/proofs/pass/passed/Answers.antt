use Rattle.hc_serve.proofs.Common.{passed}
use Rattle.hc_serve.proofs.Trees.{treed_on}
use Rattle.hc_serve.proofs.Costs.{costs_stopped, costs_treed}
use Rattle.hc_serve.proofs.pass.passed.Goals as goal

pub returns-in-Ok-clause-step : goal.returns-in-Ok-clause-step
unfolding passed
returns-in-Ok-clause-step g c = treed_on _ _ _ _ _ _ _ _ _ c.in-Ok.ensures.step c.passed_from.ensures

pub returns-in-Ok-clause-counted : goal.returns-in-Ok-clause-counted
unfolding passed
returns-in-Ok-clause-counted g c = costs_treed _ _ _ _ _ _ _ _ c.in-Ok.ensures.counted

pub returns-in-Err-clause-counted : goal.returns-in-Err-clause-counted
unfolding passed
returns-in-Err-clause-counted g c = rw c.stopped_before.ensures (costs_stopped _ _ _ _ _ _ _ c.in-Err.ensures.counted)
