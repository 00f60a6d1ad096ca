use Rattle.hc_rw_eval.proofs.Common.{true, length, Leads, run, in_order}
use Rattle.hc_rw_eval.specs.Conditions.{or_groups, tested_so_far, while_held}
use Rattle.hc_rw_eval.specs.Frames.{context_at, looks_at, shown_at}
use Rattle.hc_rw_eval.proofs.conditions.conds_tried.Given as goal

abbrev pub invariant-loop-rest : goal.invariant-loop-rest
invariant-loop-rest g l =
    let tried = while_held (context_at l.frame) (looks_at g.P.Lookups.files g.P.Lookups.values l.frame) in
    Leads l.fn.log (run (in_order tried (tested_so_far true l.fn.state) (or_groups l.conds)) (shown_at l.frame))
    l.log (run (in_order tried l.tested (or_groups l.rest)) (shown_at l.frame))

abbrev pub decreases-loop-rest : goal.decreases-loop-rest
decreases-loop-rest g l = length l.rest
