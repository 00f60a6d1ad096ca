use Rattle.std.proofs.Common.{◌≡◌, drop, map}
use Rattle.hc_merge.specs.CandidateView.{candidate_of}
use Rattle.hc_merge.specs.Settings.{on_at_sections}
use Rattle.hc_merge.proofs.settings.on_at_sections.Given as goal

abbrev pub invariant-loop-candidate : goal.invariant-loop-candidate
invariant-loop-candidate l = on_at_sections l.option l.fn.on (map candidate_of l.kept) ≡ on_at_sections l.option l.on
    (map candidate_of (drop l.candidate-index l.kept))
