use Rattle.hc_include.proofs.Common.{drop, Leads, run, shown_by, in_order, with_text}
use Rattle.hc_include.proofs.candidates.texts_on.Given as goal

abbrev pub invariant-loop-path : goal.invariant-loop-path
invariant-loop-path l =
    Leads l.fn.log (run (in_order with_text l.fn.among l.paths) (shown_by l.world.files)) l.log
    (run (in_order with_text l.among (drop l.path-index l.paths)) (shown_by l.world.files))
