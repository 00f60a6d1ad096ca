use Rattle.hc_abs_rw.proofs.Common.{List, drop}
use Rattle.hc_abs_rw.specs.Conditions.{group_plan}
use Rattle.hc_abs_rw.specs.Known.{frame_at}
use Rattle.hc_abs_rw.specs.Trials.{IsTriedBy}
use Rattle.hc_abs_rw.specs.declared.conds.Trial.{Trial}
use Rattle.hc_abs_rw.proofs.Chains.{InGroup}
use Rattle.hc_abs_rw.proofs.conds.group_trials.Given as goal

-- what is left of the group leads to the whole
abbrev pub invariant-loop-cond : goal.invariant-loop-cond
invariant-loop-cond g l =
    (found : List Trial)
    → InGroup l.frame.client (frame_at g.S.Surroundings.kind g.S.Surroundings.values l.frame) (drop l.cond-index l.group)
    l.trials.items found
    → IsTriedBy l.frame.client
    (λ so_far. group_plan (frame_at g.S.Surroundings.kind g.S.Surroundings.values l.frame) so_far l.group) l.fn.trial found
