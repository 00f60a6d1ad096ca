use Rattle.hc_abs_name.proofs.Common.{map}
use Rattle.hc_merge.specs.CandidateView.{candidate_of}
use Rattle.hc_abs_name.specs.Forced.{AreBehindForce}
use Rattle.hc_abs_name.proofs.forced.all_behind.Given as goal

abbrev pub invariant-loop-one : goal.invariant-loop-one
invariant-loop-one l =
    AreBehindForce l.ground l.decisions l.aliased l.kind (map candidate_of l.candidates) l.yielded l.found.items
