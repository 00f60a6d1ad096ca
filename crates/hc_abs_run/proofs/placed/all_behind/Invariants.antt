use Rattle.std.specs.Prelude.{◌≡◌}
use Rattle.hc_model.specs.Overrides.{Kept}
use Rattle.hc_abs_run.specs.Places.{AreBehind}
use Rattle.hc_abs_run.proofs.placed.all_behind.Given as goal

abbrev pub invariant-loop-one : goal.invariant-loop-one
invariant-loop-one g l = AreBehind l.ground l.decisions l.yielded l.found.items
    × (g.O.Overrides.fixed l.over ≡ g.O.Overrides.fixed l.initial.over)
    × Kept (g.O.Overrides.loaded l.initial.over) (g.O.Overrides.loaded l.over)
