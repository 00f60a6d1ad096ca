use Rattle.hc_rw_eval.proofs.Common.{Outcome}
use Rattle.hc_rw_eval.proofs.Expanding.{expanded_so}
use Rattle.hc_rw_eval.proofs.frame.filled.Goals as goal

pub returns : goal.returns
returns g c = expanded_so Outcome _ _ _ _ _ _ _ _ (rw c.in_ok-looks.ensures at c.in_ok-tell_looks.ensures)
    c.in_ok-expand.ensures
