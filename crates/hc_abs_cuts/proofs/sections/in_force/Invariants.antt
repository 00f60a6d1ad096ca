use Rattle.hc_abs_cuts.proofs.Common.{map}
use Rattle.hc_merge.specs.CandidateView.{candidate_of}
use Rattle.hc_abs_cuts.specs.Coded.{AreInForce}
use Rattle.hc_abs_cuts.proofs.sections.in_force.Given as goal

abbrev pub invariant-loop-one : goal.invariant-loop-one
invariant-loop-one l = AreInForce l.ground l.dir l.kind (map candidate_of l.candidates) l.yielded l.found.items
