use Rattle.hc_serve.proofs.Common.{ran_then}
use Rattle.hc_serve.specs.Passing.{finished_there}
use Rattle.hc_serve.proofs.pass.finished_there.Goals as goal

pub returns : goal.returns
unfolding finished_there
returns c = ran_then _ _ _ _ _ _ _ _ c.in_ok-sent_there.ensures c.answered.ensures
