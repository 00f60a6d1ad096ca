use Rattle.hc_abs_rw.proofs.Common.{◌∙◌, arith, subst, sym}
use Rattle.std.proofs.lemmas.Iterator.Adapters.{YieldsList-from_vec}
use Rattle.std.proofs.lemmas.Iterator.Consumers.{YieldsList-end}
use Rattle.std.proofs.lemmas.List.{map-id}
use Rattle.hc_plan.specs.Coded.{AreNext}
use Rattle.hc_abs_rw.specs.Attempts.{held_plan}
use Rattle.hc_abs_rw.specs.Known.{frame_at}
use Rattle.hc_abs_rw.specs.Looking.{LookedFits}
use Rattle.hc_abs_rw.specs.RuleBranches.{BranchFits}
use Rattle.hc_plan.proofs.Coded.{next_added}
use Rattle.hc_abs_rw.proofs.RuleBranches.{attempt_found, attempts_covered}
use Rattle.hc_abs_rw.proofs.rule.rule_branches.Goals as goal

pub loop-one-init : goal.loop-one-init
loop-one-init g c = c.new-found.ensures.items

pub loop-one-preserved : goal.loop-one-preserved
loop-one-preserved g c =
    let frame = frame_at g.S.Surroundings.kind g.S.Surroundings.values c.args.frame.now in
    let client = c.args.frame.now.client in
    next_added (LookedFits client) (BranchFits client frame.caller)
    (held_plan frame c.args.rule.now c.args.setting c.args.so_far.now) c.loop-one.yielded c.in-Some.one
    c.loop-one.found.items c.past_pattern.new.found.items c.loop-one.invariant c.in_ok-past_pattern.ensures

pub returns-clause-branches : goal.returns-clause-branches
returns-clause-branches g c =
    let frame = frame_at g.S.Surroundings.kind g.S.Surroundings.values c.args.frame.now in
    let client = c.args.frame.now.client in
    let gives = c.into_iter-one-iterator.ensures.into_iter_gives in
    let end = YieldsList-end (YieldsList-from_vec {s = c.into_iter-one-iterator.result} c.in_ok-looked.looked.items gives.0
    (let same = gives.1 in omega (arith, same))) c.loop-one.yielded c.loop-one.one-iterator c.loop-one.yielded_by
    c.next.result c.next.new.self c.in-None.is c.next.ensures.steps in
    attempt_found frame client c.args.rule.now c.args.setting c.args.before c.args.so_far.now c.in_ok-looked.looked.items
    c.loop-one.found.items c.in_ok-looked.ensures
    (subst (λ looked. AreNext (LookedFits client) (BranchFits client frame.caller)
    (held_plan frame c.args.rule.now c.args.setting c.args.so_far.now) looked c.loop-one.found.items)
    (sym (map-id c.loop-one.yielded) ∙ end.0) c.loop-one.invariant)

pub returns-clause-cover : goal.returns-clause-cover
returns-clause-cover g c =
    attempts_covered (frame_at g.S.Surroundings.kind g.S.Surroundings.values c.args.frame.now) c.args.frame.now.client
    c.args.rule.now c.args.setting c.args.before c.args.so_far.now c.loop-one.found.items (returns-clause-branches g c)
