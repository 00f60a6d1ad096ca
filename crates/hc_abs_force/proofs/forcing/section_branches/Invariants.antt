use Rattle.std.proofs.Common.{List, drop, map, take}
use Rattle.hc_merge.specs.CandidateView.{candidate_of}
use Rattle.hc_abs_force.specs.Asking.{exprs}
use Rattle.hc_abs_force.specs.Forcing.{AreForced}
use Rattle.hc_abs_force.specs.declared.forcing.Forced.{Forced}
use Rattle.hc_abs_force.proofs.Stepping.{InSections}
use Rattle.hc_abs_force.proofs.forcing.section_branches.Given as goal

-- the sections that are left lead to the whole
abbrev pub invariant-loop-candidate : goal.invariant-loop-candidate
invariant-loop-candidate l =
    (found : List Forced)
    → InSections l.scene (map candidate_of l.candidates) (map candidate_of (take l.candidate-index l.candidates))
    (exprs l.chain.items) (map candidate_of (drop l.candidate-index l.candidates)) l.found.items found
    → AreForced l.scene (map candidate_of l.candidates) l.fn.tied found
