use Rattle.hc_abs_rw.proofs.Common.{List, length}
use Rattle.hc_rw_eval.specs.Conditions.{or_groups}
use Rattle.hc_abs_rw.specs.Conditions.{conds_plan}
use Rattle.hc_abs_rw.specs.Known.{frame_at}
use Rattle.hc_abs_rw.specs.Trials.{IsTriedBy}
use Rattle.hc_abs_rw.specs.declared.conds.Trial.{Trial}
use Rattle.hc_abs_rw.proofs.Chains.{InGroups}
use Rattle.hc_abs_rw.proofs.conds.conds_trials.Given as goal

-- the groups that are left lead to the whole
abbrev pub invariant-loop-rest : goal.invariant-loop-rest
invariant-loop-rest g l =
    (found : List Trial)
    → InGroups l.frame.client (frame_at g.S.Surroundings.kind g.S.Surroundings.values l.frame) (or_groups l.rest)
    l.trials.items found
    → IsTriedBy l.frame.client
    (λ so_far. conds_plan (frame_at g.S.Surroundings.kind g.S.Surroundings.values l.frame) so_far (or_groups l.conds))
    l.fn.trial found

abbrev pub decreases-loop-rest : goal.decreases-loop-rest
decreases-loop-rest g l = length l.rest
