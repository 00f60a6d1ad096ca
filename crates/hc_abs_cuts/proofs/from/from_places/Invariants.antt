use Rattle.hc_abs_cuts.specs.Coded.{AreFromPlacesIn}
use Rattle.hc_abs_cuts.proofs.from.from_places.Given as goal

abbrev pub invariant-loop-place : goal.invariant-loop-place
invariant-loop-place l = AreFromPlacesIn l.ground l.dir l.yielded l.found.items
