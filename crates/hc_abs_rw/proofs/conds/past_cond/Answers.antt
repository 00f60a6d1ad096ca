use Rattle.hc_abs_rw.proofs.Common.{◌∙◌, ◌∷◌, [], arith, subst, sym}
use Rattle.std.proofs.lemmas.Iterator.Adapters.{YieldsList-from_vec}
use Rattle.std.proofs.lemmas.Iterator.Consumers.{YieldsList-end}
use Rattle.std.proofs.lemmas.List.{map-id}
use Rattle.hc_plan.specs.Coded.{AreNext}
use Rattle.hc_abs_rw.specs.Conditions.{cond_plan}
use Rattle.hc_abs_rw.specs.Known.{frame_at}
use Rattle.hc_abs_rw.specs.Trials.{TrialFits, past_cond}
use Rattle.hc_plan.proofs.Coded.{next_added}
use Rattle.hc_abs_rw.proofs.Trials.{held_stays, failed_goes_on}
use Rattle.hc_abs_rw.proofs.conds.past_cond.Goals as goal

pub loop-trial-init : goal.loop-trial-init
loop-trial-init g c = c.new-later.ensures.items

pub loop-trial-preserved-in-Continue-branch-2 : goal.loop-trial-preserved-in-Continue-branch-2
loop-trial-preserved-in-Continue-branch-2 g c =
    let frame = frame_at g.S.Surroundings.kind g.S.Surroundings.values c.args.frame.now in
    let client = c.args.frame.now.client in
    next_added (TrialFits client) (TrialFits client) (past_cond frame c.args.cond.now) c.loop-trial.yielded c.in-Some.trial
    c.loop-trial.later.items c.push.new.self.items c.loop-trial.invariant (
      c.in-Some.trial ∷ [],
      c.in_ok-push.ensures.items,
      held_stays client (λ so_far. cond_plan frame so_far c.args.cond.now) c.in-Some.trial c.if-trial.true,
    )

pub loop-trial-preserved : goal.loop-trial-preserved
loop-trial-preserved g c =
    let frame = frame_at g.S.Surroundings.kind g.S.Surroundings.values c.args.frame.now in
    let client = c.args.frame.now.client in
    next_added (TrialFits client) (TrialFits client) (past_cond frame c.args.cond.now) c.loop-trial.yielded c.in-Some.trial
    c.loop-trial.later.items c.try_cond.new.later.items c.loop-trial.invariant
    (let added = c.in_ok-try_cond.ensures in (
      added.0,
      added.1,
      failed_goes_on client (λ so_far. cond_plan frame so_far c.args.cond.now) c.in-Some.trial added.0 c.if-trial.false
          added.2,
    ))

pub returns : goal.returns
returns g c =
    let frame = frame_at g.S.Surroundings.kind g.S.Surroundings.values c.args.frame.now in
    let client = c.args.frame.now.client in
    let gives = c.into_iter-trial-iterator.ensures.into_iter_gives in
    let end = YieldsList-end (YieldsList-from_vec {s = c.into_iter-trial-iterator.result} c.args.trials.items gives.0
    (let same = gives.1 in omega (arith, same))) c.loop-trial.yielded
    c.loop-trial.trial-iterator c.loop-trial.yielded_by c.next.result c.next.new.self c.in-None.is c.next.ensures.steps in
    subst (λ trials. AreNext (TrialFits client) (TrialFits client) (past_cond frame c.args.cond.now) trials
    c.loop-trial.later.items) (sym (map-id c.loop-trial.yielded) ∙ end.0) c.loop-trial.invariant
