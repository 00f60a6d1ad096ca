use Rattle.hc_plan.specs.Coded.{AreNext}
use Rattle.hc_abs_rw.specs.Known.{frame_at}
use Rattle.hc_abs_rw.specs.Trials.{TrialFits, past_group}
use Rattle.hc_abs_rw.proofs.conds.past_group.Given as goal

abbrev pub invariant-loop-trial : goal.invariant-loop-trial
invariant-loop-trial g l =
    AreNext (TrialFits l.frame.client) (TrialFits l.frame.client)
    (past_group (frame_at g.S.Surroundings.kind g.S.Surroundings.values l.frame) l.group) l.yielded l.later.items
