use Rattle.hc_include.proofs.Common.{[], drop, Leads, run, shown_by, in_order, with_names}
use Rattle.hc_include.proofs.candidates.names_of.Given as goal

abbrev pub invariant-loop-directory : goal.invariant-loop-directory
invariant-loop-directory l =
    Leads l.fn.log (run (in_order (with_names l.glob) [] l.directories) (shown_by l.world.files)) l.log
    (run (in_order (with_names l.glob) l.paths (drop l.directory-index l.directories)) (shown_by l.world.files))
