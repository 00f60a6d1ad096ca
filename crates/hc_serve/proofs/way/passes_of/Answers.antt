use Rattle.hc_serve.specs.Request.{passes_of}
use Rattle.hc_serve.proofs.way.passes_of.Goals as goal

pub returns-clause-step : goal.returns-clause-step
unfolding passes_of
returns-clause-step g c = rw c.in_ok-caller.ensures at c.passes_at.ensures.step

pub returns-clause-counted : goal.returns-clause-counted
unfolding passes_of
returns-clause-counted g c = rw c.in_ok-caller.ensures at c.passes_at.ensures.counted
