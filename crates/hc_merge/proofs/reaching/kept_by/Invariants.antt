use Rattle.std.proofs.Common.{◌≡◌, ◌++◌, drop, map}
use Rattle.hc_merge.specs.CandidateView.{candidate_of, candidates_of}
use Rattle.hc_merge.specs.Reaching.{kept_by}
use Rattle.hc_merge.proofs.Chains.{kept_when}
use Rattle.hc_merge.proofs.reaching.kept_by.Given as goal

abbrev pub invariant-loop-candidate : goal.invariant-loop-candidate
invariant-loop-candidate l =
    kept_by l.view (map candidate_of l.candidates)
    ≡ candidates_of l.kept ++ kept_when l.view l.marks.items l.held
    (map candidate_of (drop l.candidate-index l.candidates))
