use Rattle.std.proofs.Common.{◌≡◌, drop, map}
use Rattle.std.specs.List.{fold}
use Rattle.hc_merge.specs.CandidateView.{candidate_of}
use Rattle.hc_merge.specs.Settings.{require_behind, require_of}
use Rattle.hc_merge.proofs.settings.require_of.Given as goal

abbrev pub invariant-loop-candidate : goal.invariant-loop-candidate
invariant-loop-candidate l =
    require_of (map candidate_of l.kept) ≡ fold require_behind l.require
    (map candidate_of (drop l.candidate-index l.kept))
