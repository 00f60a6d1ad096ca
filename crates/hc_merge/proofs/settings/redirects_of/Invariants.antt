use Rattle.std.proofs.Common.{◌≡◌, ◌++◌, ◌-◌, length, map, take}
use Rattle.hc_merge.specs.CandidateView.{candidate_of}
use Rattle.hc_merge.specs.Settings.{redirects_of}
use Rattle.hc_merge.proofs.settings.redirects_of.Given as goal

abbrev pub invariant-loop-done : goal.invariant-loop-done
invariant-loop-done l = redirects_of (map candidate_of l.kept) ≡ l.redirects ++ redirects_of
    (map candidate_of (take (length l.kept - l.done) l.kept))
