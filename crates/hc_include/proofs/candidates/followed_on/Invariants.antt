use Rattle.hc_include.proofs.Common.{drop, Leads, run, shown_by, in_order, followed}
use Rattle.hc_include.proofs.candidates.followed_on.Given as goal

abbrev pub invariant-loop-component : goal.invariant-loop-component
invariant-loop-component l =
    Leads l.fn.log (run (in_order followed l.fn.paths l.components) (shown_by l.world.files)) l.log
    (run (in_order followed l.paths (drop l.component-index l.components)) (shown_by l.world.files))
