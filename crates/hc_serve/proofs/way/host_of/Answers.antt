use Rattle.hc_serve.specs.Request.{host_of}
use Rattle.hc_serve.proofs.way.host_of.Goals as goal

pub returns-clause-step : goal.returns-clause-step
unfolding host_of
returns-clause-step c = λ shown. rw (c.choose-host.ensures.value, c.as_bytes.ensures) at
    (c.host_told.ensures.step shown)
