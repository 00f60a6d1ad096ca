use Rattle.std.proofs.Common.{◌≡◌, ◌++◌, drop, map}
use Rattle.hc_merge.specs.CandidateView.{candidates_of}
use Rattle.hc_merge.specs.Candidates.{untested}
use Rattle.hc_merge.specs.Order.{among_group}
use Rattle.hc_merge.proofs.order.with_sections.Given as goal

abbrev pub invariant-loop-section : goal.invariant-loop-section
invariant-loop-section l =
    candidates_of l.fn.list ++ map (untested l.parent) (among_group l.group l.sections)
    ≡ candidates_of l.list ++ map (untested l.parent) (among_group l.group (drop l.section-index l.sections))
