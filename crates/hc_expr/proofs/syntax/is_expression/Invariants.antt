use Rattle.hc_expr.proofs.Common.{◌≡◌, ◌≤◌, drop, map, true, token_view}
use Rattle.hc_expr.specs.Syntax.{is_expression}
use Rattle.hc_expr.proofs.syntax.is_expression.Given as goal

abbrev pub invariant-loop-token : goal.invariant-loop-token
invariant-loop-token l = record {
  same : is_expression l.spot.depth l.spot.awaited (map token_view (drop l.token-index l.tokens))
      ≡ is_expression 0 true (map token_view l.tokens);
  few : l.spot.depth ≤ l.token-index;
}
