use Rattle.hc_rw_eval.proofs.Common.{Leads, run}
use Rattle.hc_rw_eval.specs.Frames.{context_at, looks_at, shown_at}
use Rattle.hc_rw_eval.specs.Lists.{rounds_from}
use Rattle.hc_rw_eval.proofs.Rounds.{left}
use Rattle.hc_rw_eval.proofs.run.rounds_from.Given as goal

abbrev pub invariant-loop-earlier : goal.invariant-loop-earlier
invariant-loop-earlier g l =
    let context = context_at l.frame in
    let looks = looks_at g.P.Lookups.files g.P.Lookups.values l.frame in
    Leads l.fn.log (run (rounds_from l.most context looks l.rules 1 l.fn.left) (shown_at l.frame))
    l.log (left context looks l.rules (shown_at l.frame) l.most l.earlier l.left)
