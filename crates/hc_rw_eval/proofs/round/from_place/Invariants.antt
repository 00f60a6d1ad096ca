use Rattle.hc_rw_eval.proofs.Common.{length, Leads, run}
use Rattle.hc_rw_eval.specs.Frames.{context_at, looks_at, shown_at}
use Rattle.hc_rw_eval.specs.Lists.{from_place}
use Rattle.hc_rw_eval.proofs.round.from_place.Given as goal

abbrev pub invariant-loop-rule : goal.invariant-loop-rule
invariant-loop-rule g l =
    let from = from_place (context_at l.frame) (looks_at g.P.Lookups.files g.P.Lookups.values l.frame) l.round 0 in
    Leads l.fn.log (run (from l.rules l.fn.left) (shown_at l.frame)) l.log (run (from l.rest l.left) (shown_at l.frame))

abbrev pub decreases-loop-rule : goal.decreases-loop-rule
decreases-loop-rule g l = length l.rest
