use Rattle.hc_expr.proofs.Common.{◌+◌, ◌∙◌, ap, sym, drop, map, token_view}
use Rattle.std.proofs.lemmas.List.{drop_more}
use Rattle.hc_expr.specs.Syntax.{is_expression}
use Rattle.hc_expr.proofs.syntax.is_expression.Goals as goal

pub returns-in-None : goal.returns-in-None
returns-in-None c =
    let spot = c.loop-token.spot in
    let tokens = c.args.tokens.now in
    let i = c.loop-token.token-index in
    sym (c.in-None.ensures.next (map token_view (drop (i + 1) tokens)))
    ∙ sym (ap (λ l. is_expression spot.depth spot.awaited (map token_view l))
    (drop_more tokens i _ c.loop-token-test.true))
    ∙ c.loop-token.invariant.same
