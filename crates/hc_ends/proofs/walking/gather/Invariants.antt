use Rattle.std.specs.Prelude.{◌≡◌}
use Rattle.hc_model.specs.Overrides.{Kept}
use Rattle.hc_ends.proofs.Gathering.{HasPassed}
use Rattle.hc_ends.proofs.walking.gather.Given as goal

abbrev pub invariant-loop-count : goal.invariant-loop-count
invariant-loop-count g l = HasPassed l.ground l.initial.tree l._count l.tree l.leaves.items
    × (g.O.Overrides.fixed l.over ≡ g.O.Overrides.fixed l.initial.over)
    × Kept (g.O.Overrides.loaded l.initial.over) (g.O.Overrides.loaded l.over)
