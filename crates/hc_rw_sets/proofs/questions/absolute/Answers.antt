use Rattle.hc_rw_sets.proofs.Placing.{absolute_accept}
use Rattle.hc_rw_sets.proofs.questions.absolute.Goals as goal

pub returns : goal.returns
returns c = absolute_accept _ _ _ c.in_ok-nothing.ensures c.in_ok-all.ensures c.in_ok-made.ensures
