use Rattle.hc_rw_eval.proofs.Common.{drop, Leads, run, in_order}
use Rattle.hc_rw_eval.specs.Frames.{context_at, looks_at, shown_at}
use Rattle.hc_rw_eval.specs.Substitutions.{with_set}
use Rattle.hc_rw_eval.proofs.variables.variables_set.Given as goal

abbrev pub invariant-loop-set : goal.invariant-loop-set
invariant-loop-set g l =
    let set = with_set (context_at l.frame) (looks_at g.P.Lookups.files g.P.Lookups.values l.frame) in
    Leads l.fn.log (run (in_order set l.fn.state l.sets) (shown_at l.frame))
    l.log (run (in_order set l.state (drop l.set-index l.sets)) (shown_at l.frame))
