use Rattle.hc_serve.proofs.Trees.{treed_on}
use Rattle.hc_serve.specs.Request.{way}
use Rattle.hc_serve.proofs.Costs.{costs_behind_tree}
use Rattle.hc_serve.proofs.way.way.Goals as goal

pub returns-in-Ok-clause-step : goal.returns-in-Ok-clause-step
unfolding way
returns-in-Ok-clause-step g c = treed_on _ _ _ _ _ _ _ _ _ c.in-Ok.ensures.step c.passes_of.ensures.step

pub returns-in-Ok-clause-counted : goal.returns-in-Ok-clause-counted
unfolding way
returns-in-Ok-clause-counted g c =
    costs_behind_tree _ _ _ _ _ _ _ _ _ _ c.in-Ok.ensures.step c.passes_of.ensures.counted
