use Rattle.hc_expr.proofs.Common.{refl, sym, ◌∙◌, length, token_found}
use Rattle.hc_expr.proofs.TokenLemmas.{token_more}
use Rattle.hc_expr.proofs.token.tokens.Goals as goal

pub loop-turn-preserved : goal.loop-turn-preserved
loop-turn-preserved c =
    token_more c.loop-turn.tokens.items c.push.new.self.items c.token_at.result.0
    c.past_blanks-rest-in-loop-turn.result.now c.loop-turn.rest.now (token_found c.token_at.result)
    (length c.args.text.now) c.loop-turn._turn c.loop-turn-test.true (sym c.is_empty.ensures ∙ c.if-is_empty.false)
    c.token_at.ensures refl c.past_blanks-rest-in-loop-turn.ensures c.in_ok-push.ensures.items
    ∙ c.loop-turn.invariant
