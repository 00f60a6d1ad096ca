use Rattle.hc_serve.proofs.Common.{ap, refl, walked, ran_on, ran_off}
use Rattle.hc_serve.proofs.pass.walked.Goals as goal
use Rattle.hc_steps.specs.Walking.{walk}

pub returns-in_err-walk : goal.returns-in_err-walk
unfolding walked
returns-in_err-walk c = ran_off _ _ _ _ _ _ _ _ c.from_residual.ensures.1 c.in_err-walk.ensures
    (ap walk c.as_bytes.ensures)

pub returns : goal.returns
unfolding walked
returns c = ran_on _ _ _ _ _ _ _ _ _ _ c.in_ok-walk.ensures (ap walk c.as_bytes.ensures) (c.seen_there.ensures _) refl
