use Rattle.hc_serve.proofs.Common.{ap, refl, ran_leaves, ran_off, ran_then}
use Rattle.std.proofs.Common.{Some}
use Rattle.hc_serve.specs.Passing.{rules_left}
use Rattle.hc_serve.proofs.directory_rules.rules_left.Goals as goal

pub returns-in_err-ran : goal.returns-in_err-ran
unfolding rules_left
returns-in_err-ran c = ran_off _ _ _ _ _ _ _ _ c.from_residual.ensures.1 c.in_err-ran.ensures refl

pub returns : goal.returns
unfolding rules_left
returns c = ran_then _ _ _ _ _ _ _ _ c.in_ok-ran.ensures (ran_leaves _ _ _ _ _ (ap Some c.state_of.ensures))
