use Rattle.hc_pattern.proofs.Common.{◌∷◌, [], ◌∙◌, ap, sym, map, map-append, levels_known}
use Rattle.hc_pattern.specs.BuildViews.{levels_view}
use Rattle.hc_pattern.specs.TokenViews.{placed_view}
use Rattle.hc_pattern.proofs.BuildLemmas.{tree_is_known, last_token, none_left}
use Rattle.hc_pattern.proofs.build.build.Goals as goal

pub tokens-preserved : goal.tokens-preserved
tokens-preserved c =
    let front = map placed_view c.in-Some.front.now in
    let levels = levels_view c.tokens.levels in
    ap (levels_known front) c.in_ok-with_token.ensures
    ∙ sym (last_token front (placed_view c.in-Some.last.now) levels)
    ∙ ap (λ tokens. levels_known tokens levels)
    (sym (ap (map placed_view) c.in-Some.ensures.cases.0 ∙ map-append placed_view c.in-Some.front.now
    (c.in-Some.last.now ∷ []))) ∙ c.tokens.invariant

pub returns : goal.returns
returns c =
    c.in_ok-whole.ensures
    ∙ tree_is_known (map placed_view c.args.tokens.now) (levels_view c.tokens.levels)
    (sym (none_left c.tokens.rest.now (levels_view c.tokens.levels) c.in_default.ensures.cases)
    ∙ c.tokens.invariant)
