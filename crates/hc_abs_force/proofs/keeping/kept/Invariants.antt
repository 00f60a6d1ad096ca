use Rattle.std.proofs.Common.{◌≡◌, ◌++◌, drop, map}
use Rattle.hc_merge.specs.CandidateView.{candidate_of}
use Rattle.hc_abs_force.specs.Forcing.{marked}
use Rattle.hc_abs_force.proofs.keeping.kept.Given as goal

-- the candidates that are left come behind those that are kept so far
abbrev pub invariant-loop-candidate : goal.invariant-loop-candidate
invariant-loop-candidate l =
    marked l.marks (map candidate_of l.candidates)
    ≡ map candidate_of l.kept.items ++ marked l.left (map candidate_of (drop l.candidate-index l.candidates))
