use Rattle.hc_abs_rw.proofs.Common.{◌∙◌, arith, subst, sym}
use Rattle.std.proofs.lemmas.Iterator.Adapters.{YieldsList-from_vec}
use Rattle.std.proofs.lemmas.Iterator.Consumers.{YieldsList-end}
use Rattle.std.proofs.lemmas.List.{map-id}
use Rattle.hc_abs_rw.specs.Attempts.{tested_plan}
use Rattle.hc_abs_rw.specs.Known.{frame_at}
use Rattle.hc_abs_rw.specs.RuleBranches.{AreTested, BranchFits}
use Rattle.hc_abs_rw.specs.Trials.{TrialFits}
use Rattle.hc_plan.proofs.Coded.{next_added}
use Rattle.hc_abs_rw.proofs.rule.behind_conds.Goals as goal

pub loop-trial-init : goal.loop-trial-init
loop-trial-init g c = c.new-found.ensures.items

pub loop-trial-preserved : goal.loop-trial-preserved
loop-trial-preserved g c =
    let frame = frame_at g.S.Surroundings.kind g.S.Surroundings.values c.args.frame.now in
    let client = c.args.frame.now.client in
    next_added (TrialFits client) (BranchFits client frame.caller) (tested_plan frame c.args.rule.now c.args.setting)
    c.loop-trial.yielded c.in-Some.trial c.loop-trial.found.items c.past_conds.new.found.items c.loop-trial.invariant
    c.in_ok-past_conds.ensures

pub returns : goal.returns
returns g c =
    let frame = frame_at g.S.Surroundings.kind g.S.Surroundings.values c.args.frame.now in
    let gives = c.into_iter-trial-iterator.ensures.into_iter_gives in
    let end = YieldsList-end (YieldsList-from_vec {s = c.into_iter-trial-iterator.result} c.args.trials.items gives.0
    (let same = gives.1 in omega (arith, same))) c.loop-trial.yielded c.loop-trial.trial-iterator c.loop-trial.yielded_by
    c.next.result c.next.new.self c.in-None.is c.next.ensures.steps in
    subst (λ trials. AreTested frame c.args.frame.now.client c.args.rule.now c.args.setting trials c.loop-trial.found.items)
    (sym (map-id c.loop-trial.yielded) ∙ end.0) c.loop-trial.invariant
