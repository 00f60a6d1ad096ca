use Rattle.std.proofs.Common.{subst}
use Rattle.hc_dfa.specs.Built.{Accepts}
use Rattle.hc_plan.specs.Branches.{finds}
use Rattle.hc_abs_view.proofs.sides.found_sides.Goals as goal

pub returns : goal.returns
returns c =
    c.in_ok-sides.ensures (finds c.args.pattern.now)
    (subst (λ pattern. Accepts c.in_ok-set.set (finds pattern)) c.as_pat.ensures c.in_ok-set.ensures)
