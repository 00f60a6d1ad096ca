use Rattle.std.specs.Prelude.{◌≡◌}
use Rattle.hc_model.specs.Overrides.{Kept}
use Rattle.hc_abs_leaves.proofs.Growth.{Comes}
use Rattle.hc_abs_leaves.proofs.tree.Tree.next.Given as goal

abbrev pub invariant-loop-turn : goal.invariant-loop-turn
invariant-loop-turn g l = Comes l.ground l.initial.self.pending.items l.self.pending.items
    × (g.O.Overrides.fixed l.over ≡ g.O.Overrides.fixed l.initial.over)
    × Kept (g.O.Overrides.loaded l.initial.over) (g.O.Overrides.loaded l.over)
