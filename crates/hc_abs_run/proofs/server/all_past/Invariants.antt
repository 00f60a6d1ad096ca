use Rattle.std.specs.Prelude.{◌≡◌}
use Rattle.hc_model.specs.Overrides.{Kept}
use Rattle.hc_abs_run.specs.Lists.{AllPast}
use Rattle.hc_abs_run.proofs.server.all_past.Given as goal

abbrev pub invariant-loop-one : goal.invariant-loop-one
invariant-loop-one g l = AllPast l.ground l.yielded l.found.items
    × (g.O.Overrides.fixed l.over ≡ g.O.Overrides.fixed l.initial.over)
    × Kept (g.O.Overrides.loaded l.initial.over) (g.O.Overrides.loaded l.over)
