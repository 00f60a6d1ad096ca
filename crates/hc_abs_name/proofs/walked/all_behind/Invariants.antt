use Rattle.hc_abs_name.proofs.Common.{◌≡◌}
use Rattle.hc_model.specs.Overrides.{Kept}
use Rattle.hc_abs_name.specs.Walked.{AreBehindWalk}
use Rattle.hc_abs_name.proofs.walked.all_behind.Given as goal

abbrev pub invariant-loop-one : goal.invariant-loop-one
invariant-loop-one g l =
    AreBehindWalk l.ground l.decisions l.aliased l.yielded l.found.items
    × (g.O.Overrides.fixed l.over ≡ g.O.Overrides.fixed l.initial.over)
    × Kept (g.O.Overrides.loaded l.initial.over) (g.O.Overrides.loaded l.over)
