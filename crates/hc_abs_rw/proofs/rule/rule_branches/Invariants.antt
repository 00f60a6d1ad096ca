use Rattle.hc_plan.specs.Coded.{AreNext}
use Rattle.hc_abs_rw.specs.Attempts.{held_plan}
use Rattle.hc_abs_rw.specs.Known.{frame_at}
use Rattle.hc_abs_rw.specs.Looking.{LookedFits}
use Rattle.hc_abs_rw.specs.RuleBranches.{BranchFits}
use Rattle.hc_abs_rw.proofs.rule.rule_branches.Given as goal

abbrev pub invariant-loop-one : goal.invariant-loop-one
invariant-loop-one g l =
    AreNext (LookedFits l.frame.client)
    (BranchFits l.frame.client (frame_at g.S.Surroundings.kind g.S.Surroundings.values l.frame).caller)
    (held_plan (frame_at g.S.Surroundings.kind g.S.Surroundings.values l.frame) l.rule l.setting l.so_far) l.yielded
    l.found.items
