use Rattle.hc_serve.proofs.Common.{ap, refl, ran_leaves, ran_off, ran_on}
use Rattle.hc_steps.specs.Step.{kind_at}
use Rattle.hc_serve.specs.Passing.{exists}
use Rattle.hc_serve.proofs.server_rules.exists.Goals as goal

pub returns-in_err-kind : goal.returns-in_err-kind
unfolding exists
returns-in_err-kind c =
    rw c.in-Some.is
    (ran_off _ _ _ _ _ _ _ _ c.from_residual.ensures.1 c.in_err-kind.ensures (ap kind_at c.as_bytes.ensures))

pub returns : goal.returns
unfolding exists
returns c =
    rw c.in-Some.is (ran_on _ _ _ _ _ _ _ _ _ _ c.in_ok-kind.ensures (ap kind_at c.as_bytes.ensures)
    (ran_leaves _ _ _ _ _ c.is_there.ensures) refl)
