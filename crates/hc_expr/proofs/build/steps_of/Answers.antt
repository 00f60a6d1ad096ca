use Rattle.hc_expr.proofs.Common.{◌∷◌, [], ◌∙◌, ap, sym, map, map-append, token_view}
use Rattle.hc_expr.proofs.Building.{all_tokens, last_token, output_with}
use Rattle.hc_expr.specs.StepViews.{output_of}
use Rattle.hc_expr.proofs.build.steps_of.Goals as goal

pub tokens-init : goal.tokens-init
tokens-init c =
    let tokens = map token_view c.args.tokens.items in
    ap (output_with tokens) c.new-levels.ensures ∙ all_tokens tokens

pub tokens-preserved : goal.tokens-preserved
tokens-preserved c =
    let front = c.pop.new.self.items in
    let output = output_of c.tokens.levels in
    ap (output_with (map token_view front)) c.in_ok-with_token.ensures
    ∙ sym (last_token (map token_view front) (token_view c.in-Some.last) output)
    ∙ ap (λ tokens. output_with tokens output)
    (sym (ap (map token_view) c.in-Some.ensures.items ∙ map-append token_view front (c.in-Some.last ∷ [])))
    ∙ c.tokens.invariant
