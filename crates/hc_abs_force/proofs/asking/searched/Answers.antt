use Rattle.std.proofs.Common.{subst}
use Rattle.hc_dfa.specs.Built.{Accepts}
use Rattle.hc_merge.specs.Reaching.{is_found}
use Rattle.hc_abs_force.proofs.Tried.{slot_tried}
use Rattle.hc_abs_force.proofs.asking.searched.Goals as goal

pub returns : goal.returns
returns c scene =
    slot_tried c.args.slot c.in_ok-set.set (is_found c.args.pattern.now)
    (subst (λ pattern. Accepts c.in_ok-set.set (is_found pattern)) c.as_pat.ensures c.in_ok-set.ensures) scene
    c.args.parent c.args.before.items c.in_ok-later.later.items c.in_ok-later.ensures
