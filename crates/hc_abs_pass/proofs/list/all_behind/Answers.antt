use Rattle.hc_abs_pass.proofs.Common.{◌∷◌, []}
use Rattle.hc_plan.proofs.Coded.{next_added}
use Rattle.hc_abs_rw.specs.RuleBranches.{BranchFits}
use Rattle.hc_abs_pass.specs.Listing.{PlaceFits, attempted_plan, so_far_of}
use Rattle.hc_abs_pass.proofs.list.all_behind.Goals as goal

pub loop-branch-preserved : goal.loop-branch-preserved
loop-branch-preserved c client caller =
    next_added (BranchFits client caller) (PlaceFits client caller)
    (attempted_plan c.args.rule.now c.args.behind.now (so_far_of c.args.before.now)) c.loop-branch.yielded
    c.in-Some.branch c.loop-branch.later.items c.push.new.self.items (c.loop-branch.invariant client caller) (
      c.in_ok-behind_rule.field-0 ∷ [],
      c.in_ok-push.ensures.items,
      c.in_ok-behind_rule.ensures client caller,
    )
