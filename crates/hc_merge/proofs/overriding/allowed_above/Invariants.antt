use Rattle.std.proofs.Common.{◌≡◌, drop, take}
use Rattle.std.specs.List.{flat_map}
use Rattle.hc_model.specs.World.{fronts, parents}
use Rattle.hc_merge.specs.CandidateView.{sections_view}
use Rattle.hc_merge.specs.Candidates.{sections_at}
use Rattle.hc_merge.specs.Overriding.{allowed_behind, nothing_allowed}
use Rattle.hc_merge.proofs.overriding.allowed_above.Given as goal

abbrev pub invariant-loop-at : goal.invariant-loop-at
invariant-loop-at l =
    allowed_behind nothing_allowed (flat_map (sections_at (sections_view l.sections)) (parents l.dir))
    ≡ allowed_behind l.allowed
    (flat_map (sections_at (sections_view l.sections)) (fronts (take l.at l.dir) (drop l.at l.dir)))
