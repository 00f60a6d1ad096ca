use Rattle.hc_serve.proofs.Common.{◌∙◌, ap, refl, ran_on, ran_off}
use Rattle.hc_serve.specs.ServerRules.{first_component}
use Rattle.hc_serve.specs.Passing.{absolute_left, exists}
use Rattle.hc_serve.proofs.server_rules.absolute_left.Goals as goal

pub returns-in_err-there : goal.returns-in_err-there
unfolding absolute_left
returns-in_err-there c =
    rw c.if-passed.false (ran_off _ _ _ _ _ _ _ _ c.from_residual-in_err-there.ensures.1 c.in_err-there.ensures
    (ap exists (c.in_ok-first.ensures ∙ ap first_component c.as_bytes.ensures)))

pub returns : goal.returns
unfolding absolute_left
returns c =
    rw c.if-passed.false (ran_on _ _ _ _ _ _ _ _ _ _ c.in_ok-there.ensures
    (ap exists (c.in_ok-first.ensures ∙ ap first_component c.as_bytes.ensures)) c.name_left.ensures refl)
