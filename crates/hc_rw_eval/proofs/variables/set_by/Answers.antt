use Rattle.hc_rw_eval.proofs.Common.{ran_then}
use Rattle.hc_rw_eval.specs.Substitutions.{set_by}
use Rattle.hc_rw_eval.specs.Frames.{shown_at}
use Rattle.hc_rw_eval.proofs.variables.set_by.Goals as goal

pub returns : goal.returns
unfolding set_by
returns g c = rw c.in-Some.is (ran_then _ _ _ _ _ _ _ _ c.in_ok-value.ensures
    (c.set_to.ensures (shown_at c.args.frame.now)))
