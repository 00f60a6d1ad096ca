use Rattle.hc_abs_rw.proofs.Common.{◌∙◌, ◌∷◌, [], arith, subst, sym}
use Rattle.std.proofs.lemmas.Iterator.Adapters.{YieldsList-from_vec}
use Rattle.std.proofs.lemmas.Iterator.Consumers.{YieldsList-end}
use Rattle.std.proofs.lemmas.List.{map-id}
use Rattle.hc_plan.specs.Coded.{AreNext}
use Rattle.hc_abs_rw.specs.Conditions.{group_plan}
use Rattle.hc_abs_rw.specs.Known.{frame_at}
use Rattle.hc_abs_rw.specs.Trials.{TrialFits, past_group}
use Rattle.hc_plan.proofs.Coded.{next_added}
use Rattle.hc_abs_rw.proofs.Trials.{failed_stays, held_goes_on}
use Rattle.hc_abs_rw.proofs.conds.past_group.Goals as goal

pub loop-trial-init : goal.loop-trial-init
loop-trial-init g c = c.new-later.ensures.items

pub loop-trial-preserved : goal.loop-trial-preserved
loop-trial-preserved g c =
    let frame = frame_at g.S.Surroundings.kind g.S.Surroundings.values c.args.frame.now in
    let client = c.args.frame.now.client in
    next_added (TrialFits client) (TrialFits client) (past_group frame c.args.group.now) c.loop-trial.yielded
    c.in-Some.trial c.loop-trial.later.items c.push.new.self.items c.loop-trial.invariant (
      c.in-Some.trial ∷ [],
      c.in_ok-push.ensures.items,
      failed_stays client (λ so_far. group_plan frame so_far c.args.group.now) c.in-Some.trial c.if-trial.false,
    )

pub loop-trial-preserved-then-trial : goal.loop-trial-preserved-then-trial
loop-trial-preserved-then-trial g c =
    let frame = frame_at g.S.Surroundings.kind g.S.Surroundings.values c.args.frame.now in
    let client = c.args.frame.now.client in
    next_added (TrialFits client) (TrialFits client) (past_group frame c.args.group.now) c.loop-trial.yielded
    c.in-Some.trial c.loop-trial.later.items c.append.new.self.items c.loop-trial.invariant (
      c.in_ok-found.found.items,
      c.in_ok-append.ensures.items,
      held_goes_on client (λ so_far. group_plan frame so_far c.args.group.now) c.in-Some.trial c.in_ok-found.found.items
          c.if-trial.true c.in_ok-found.ensures,
    )

pub returns : goal.returns
returns g c =
    let frame = frame_at g.S.Surroundings.kind g.S.Surroundings.values c.args.frame.now in
    let client = c.args.frame.now.client in
    let gives = c.into_iter-trial-iterator.ensures.into_iter_gives in
    let end = YieldsList-end (YieldsList-from_vec {s = c.into_iter-trial-iterator.result} c.args.trials.items gives.0
    (let same = gives.1 in omega (arith, same))) c.loop-trial.yielded
    c.loop-trial.trial-iterator c.loop-trial.yielded_by c.next.result c.next.new.self c.in-None.is c.next.ensures.steps in
    subst (λ trials. AreNext (TrialFits client) (TrialFits client) (past_group frame c.args.group.now) trials
    c.loop-trial.later.items) (sym (map-id c.loop-trial.yielded) ∙ end.0) c.loop-trial.invariant
