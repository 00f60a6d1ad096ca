use Rattle.std.proofs.Common.{◌≡◌, drop, map}
use Rattle.std.specs.List.{fold}
use Rattle.hc_merge.specs.CandidateView.{candidate_of}
use Rattle.hc_merge.specs.Rewriting.{rewriting_behind, rewriting_of}
use Rattle.hc_merge.specs.RewritingView.{rewriting_view}
use Rattle.hc_merge.proofs.rewriting.rewriting_of.Given as goal

abbrev pub invariant-loop-candidate : goal.invariant-loop-candidate
invariant-loop-candidate l =
    rewriting_of (map candidate_of l.kept)
    ≡ fold rewriting_behind (rewriting_view l.so_far) (map candidate_of (drop l.candidate-index l.kept))
