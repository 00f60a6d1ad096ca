use Rattle.std.proofs.Common.{◌≡◌, ◌++◌, drop, map}
use Rattle.hc_merge.specs.CandidateView.{candidate_of, candidates_of}
use Rattle.hc_merge.specs.Order.{inside_each}
use Rattle.hc_merge.proofs.order.inside_each.Given as goal

abbrev pub invariant-loop-candidate : goal.invariant-loop-candidate
invariant-loop-candidate l =
    inside_each l.group 0 (map candidate_of l.earlier)
    ≡ candidates_of l.inner ++ inside_each l.group l.place (map candidate_of (drop l.candidate-index l.earlier))
