use Rattle.std.proofs.Common.{◌≡◌, ◌-◌, ◌++◌, length, map}
use Rattle.hc_expr.specs.TokenViews.{token_view}
use Rattle.hc_expr.specs.Tokens.{tokens_in, tokens_of}
use Rattle.hc_expr.proofs.token.tokens.Given as goal

abbrev pub invariant-loop-turn : goal.invariant-loop-turn
invariant-loop-turn l = map token_view l.tokens.items ++ tokens_in (length l.text - l._turn) l.rest ≡ tokens_of l.text
