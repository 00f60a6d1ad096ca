use Rattle.hc_abs_cuts.proofs.Common.{◌≡◌}
use Rattle.hc_model.specs.Overrides.{Kept}
use Rattle.hc_abs_cuts.specs.Coded.{AreAtEndsIn}
use Rattle.hc_abs_cuts.proofs.places.at_ends.Given as goal

abbrev pub invariant-loop-end : goal.invariant-loop-end
invariant-loop-end g l =
    AreAtEndsIn l.ground l.dir l.tied l.yielded l.found.items
    × (g.O.Overrides.fixed l.over ≡ g.O.Overrides.fixed l.initial.over)
    × Kept (g.O.Overrides.loaded l.initial.over) (g.O.Overrides.loaded l.over)
