use Rattle.hc_rw_eval.proofs.Common.{ran_then}
use Rattle.hc_rw_eval.specs.Substitutions.{substituted}
use Rattle.hc_rw_eval.proofs.substitution.substituted.Goals as goal

pub returns : goal.returns
unfolding substituted
returns g c = rw c.in-Some.is (ran_then _ _ _ _ _ _ _ _ c.in_ok-text.ensures c.text_made.ensures)
