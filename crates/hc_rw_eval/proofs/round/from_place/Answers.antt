use Rattle.hc_rw_eval.proofs.Turns.{look_faults, rule_failed, rules_end, turn_ended, turn_faults, turn_further}
use Rattle.hc_rw_eval.proofs.round.from_place.Goals as goal

pub returns-in_err-looked : goal.returns-in_err-looked
returns-in_err-looked g c =
    look_faults _ _ _ _ _ _ _ _ _ _ _ _ c.in-Some.ensures.cases.0 c.loop-rule.invariant _ _ c.in_err-looked.ensures
    c.from_residual.ensures.1

pub loop-rule-preserved-in_default-looked : goal.loop-rule-preserved-in_default-looked
loop-rule-preserved-in_default-looked g c =
    rule_failed _ _ _ _ _ _ _ _ _ _ _ _ c.in-Some.ensures.cases.0 c.loop-rule.invariant _
    (rw c.in_default-looked.is at c.in_ok-looked.ensures) (rw c.skipped_chain.ensures at c.beyond-rest.ensures)

pub returns-in_err-round : goal.returns-in_err-round
returns-in_err-round g c =
    turn_faults _ _ _ _ _ _ _ _ _ _ _ _ c.in-Some.ensures.cases.0 c.loop-rule.invariant _ _ _
    c.with_groups-before.ensures
    (rw c.in-Held.is at c.in_ok-looked.ensures) _ _ c.in_err-round.ensures c.from_residual-in_err-round.ensures.1

pub returns-in-Ended : goal.returns-in-Ended
returns-in-Ended g c =
    turn_ended _ _ _ _ _ _ _ _ _ _ _ _ c.in-Some.ensures.cases.0 c.loop-rule.invariant _ _ _
    c.with_groups-before.ensures
    (rw c.in-Held.is at c.in_ok-looked.ensures) _ (rw c.in-Ended.is at c.in_ok-round.ensures)

pub loop-rule-preserved : goal.loop-rule-preserved
loop-rule-preserved g c =
    turn_further _ _ _ _ _ _ _ _ _ _ _ _ c.in-Some.ensures.cases.0 c.loop-rule.invariant _ _ _
    c.with_groups-before.ensures
    (rw c.in-Held.is at c.in_ok-looked.ensures) _ _ _ (rw c.in-Further.is at c.in_ok-round.ensures)
    c.beyond-rest-in-Further.ensures

pub returns : goal.returns
returns g c = rules_end _ _ _ _ _ _ _ _ _ c.loop-rule.invariant c.in_default.ensures.cases
