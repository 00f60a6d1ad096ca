use Rattle.hc_rw_eval.proofs.Common.{ran_then}
use Rattle.hc_rw_eval.specs.Conditions.{cond_tried}
use Rattle.hc_rw_eval.proofs.conditions.cond_tried.Goals as goal

pub returns : goal.returns
unfolding cond_tried
returns g c = ran_then _ _ _ _ _ _ _ _ c.in_ok-text.ensures c.text_tested.ensures
