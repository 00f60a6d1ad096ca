use Rattle.std.proofs.Common.{◌≡◌, [], drop}
use Rattle.std.specs.Prelude.{reverse}
use Rattle.hc_expr.specs.Held.{held_after}
use Rattle.hc_expr.proofs.hold.parts_held.Given as goal

abbrev pub invariant-loop-step : goal.invariant-loop-step
invariant-loop-step l = held_after l.view (drop l.step-index l.steps) (reverse l.held.items)
    ≡ held_after l.view l.steps []
