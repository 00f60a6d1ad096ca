use Rattle.hc_rw_eval.proofs.Common.{false, drop, Leads, run, in_order}
use Rattle.hc_rw_eval.specs.Conditions.{tested_so_far, unless_held}
use Rattle.hc_rw_eval.specs.Frames.{context_at, looks_at, shown_at}
use Rattle.hc_rw_eval.proofs.conditions.group_tried.Given as goal

abbrev pub invariant-loop-cond : goal.invariant-loop-cond
invariant-loop-cond g l =
    let tried = unless_held (context_at l.frame) (looks_at g.P.Lookups.files g.P.Lookups.values l.frame) in
    Leads l.fn.log (run (in_order tried (tested_so_far false l.fn.state) l.group) (shown_at l.frame))
    l.log (run (in_order tried l.tested (drop l.cond-index l.group)) (shown_at l.frame))
