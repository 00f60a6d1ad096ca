use Rattle.std.proofs.Common.{◌≡◌, ◌++◌, drop, map}
use Rattle.hc_merge.specs.CandidateView.{candidate_of, candidates_of}
use Rattle.hc_merge.proofs.order.joined.Given as goal

abbrev pub invariant-loop-candidate : goal.invariant-loop-candidate
invariant-loop-candidate l =
    candidates_of l.fn.list ++ map candidate_of l.more ≡ candidates_of l.list ++ map candidate_of
    (drop l.candidate-index l.more)
