use Rattle.std.proofs.Common.{◌≡◌, ◌++◌, drop, map}
use Rattle.hc_merge.specs.CandidateView.{candidate_of}
use Rattle.hc_merge.specs.Settings.{event_of}
use Rattle.hc_merge.proofs.settings.events_of.Given as goal

abbrev pub invariant-loop-candidate : goal.invariant-loop-candidate
invariant-loop-candidate l = map event_of (map candidate_of l.kept)
    ≡ l.events ++ map event_of (map candidate_of (drop l.candidate-index l.kept))
