use Rattle.hc_serve.proofs.Common.{refl, passed_there, ran_then, ran_off}
use Rattle.hc_serve.proofs.pass.passed_there.Goals as goal

pub returns-in_err-left : goal.returns-in_err-left
unfolding passed_there
returns-in_err-left c =
    ran_then _ _ _ _ _ _ _ _ c.in_ok-admitted.ensures
    (ran_off _ _ _ _ _ _ _ _ c.from_residual-in_err-left.ensures.1 c.in_err-left.ensures refl)

pub returns : goal.returns
unfolding passed_there
returns c =
    ran_then _ _ _ _ _ _ _ _ c.in_ok-admitted.ensures
    (ran_then _ _ _ _ _ _ _ _ c.in_ok-left.ensures c.finished_there.ensures)
