use Rattle.hc_expr.proofs.Common.{◌≡◌, length, map, token_view}
use Rattle.hc_expr.proofs.Building.{output_with}
use Rattle.hc_expr.specs.Emitted.{output_after}
use Rattle.hc_expr.specs.StepViews.{output_of}
use Rattle.hc_expr.proofs.build.steps_of.Given as goal

abbrev pub invariant-tokens : goal.invariant-tokens
invariant-tokens l = output_with (map token_view l.tokens.items) (output_of l.levels)
    ≡ output_after (map token_view l.fn.tokens.items)

abbrev pub decreases-tokens : goal.decreases-tokens
decreases-tokens l = length l.tokens.items
