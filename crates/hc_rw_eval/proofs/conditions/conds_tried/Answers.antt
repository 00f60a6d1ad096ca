use Rattle.hc_rw_eval.proofs.Common.{◌∙◌, sym}
use Rattle.hc_rw_eval.specs.Conditions.{conds_tried}
use Rattle.hc_rw_eval.proofs.Groups.{group_faults, group_more, groups_end}
use Rattle.hc_rw_eval.proofs.conditions.conds_tried.Goals as goal

pub returns-in_err-tested : goal.returns-in_err-tested
unfolding conds_tried
returns-in_err-tested g c =
    group_faults _ _ _ _ _ _ _ c.loop-rest.invariant _ _ _ _ (sym c.is_empty.ensures ∙ c.loop-rest-test.true)
    c.group_length.ensures.length c.split_at.ensures.front c.split_at.ensures.back _ _ c.in_err-tested.ensures
    c.from_residual.ensures.1

pub loop-rest-preserved : goal.loop-rest-preserved
loop-rest-preserved g c =
    group_more _ _ _ _ _ _ _ c.loop-rest.invariant _ _ _ _ (sym c.is_empty.ensures ∙ c.loop-rest-test.true)
    c.group_length.ensures.length c.split_at.ensures.front c.split_at.ensures.back _ c.in_ok-tested.ensures

pub returns : goal.returns
unfolding conds_tried
returns g c = groups_end _ _ _ _ _ _ _ c.loop-rest.invariant (sym c.is_empty.ensures ∙ c.loop-rest-test.false)
