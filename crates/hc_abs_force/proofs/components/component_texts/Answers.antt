use Rattle.std.proofs.Common.{subst}
use Rattle.hc_dfa.specs.Built.{Accepts}
use Rattle.hc_merge.specs.Reaching.{is_found}
use Rattle.hc_abs_force.proofs.LastIn.{component_is}
use Rattle.hc_abs_force.proofs.components.component_texts.Goals as goal

pub returns : goal.returns
returns c =
    component_is c.args.pattern.now c.in_ok-set.set c.in_ok-made.made
    (subst (λ pattern. Accepts c.in_ok-set.set (is_found pattern)) c.as_pat.ensures c.in_ok-set.ensures)
    c.in_ok-made.ensures
