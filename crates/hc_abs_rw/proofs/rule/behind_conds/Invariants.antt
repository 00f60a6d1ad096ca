use Rattle.hc_abs_rw.specs.Known.{frame_at}
use Rattle.hc_abs_rw.specs.RuleBranches.{AreTested}
use Rattle.hc_abs_rw.proofs.rule.behind_conds.Given as goal

abbrev pub invariant-loop-trial : goal.invariant-loop-trial
invariant-loop-trial g l =
    AreTested (frame_at g.S.Surroundings.kind g.S.Surroundings.values l.frame) l.frame.client l.rule l.setting l.yielded
    l.found.items
