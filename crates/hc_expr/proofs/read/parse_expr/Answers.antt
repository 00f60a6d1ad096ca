use Rattle.hc_expr.proofs.Common.{◌∙◌, ap, sym, map, token_view}
use Rattle.std.proofs.Common.{subst, true}
use Rattle.hc_base.specs.Gives.{Gives}
use Rattle.hc_expr.proofs.StepsOfTrees.{read_whole}
use Rattle.hc_expr.specs.Emitted.{tree_of}
use Rattle.hc_expr.specs.Reading.{expression_of, parse_expr}
use Rattle.hc_expr.specs.Steps.{steps_read}
use Rattle.hc_expr.specs.Syntax.{is_expression}
use Rattle.hc_expr.specs.StepViews.{emitted}
use Rattle.hc_expr.proofs.read.parse_expr.Goals as goal

pub returns : goal.returns
unfolding parse_expr
returns c =
    let tokens = map token_view c.in_ok-tokens.tokens.items in
    let is =
    sym (c.is_expression.ensures ∙ ap (λ l. is_expression 0 true (map token_view l)) c.deref.ensures.value)
    ∙ c.if-not-is_expression.false in
    let read = ap (λ l. steps_read (emitted l)) c.deref-2.ensures.value ∙ ap steps_read c.in_ok-steps.ensures
    ∙ read_whole tokens is ∙ ap (λ tokens. expression_of (tree_of tokens)) c.in_ok-tokens.ensures in
    subst (Gives c.steps_read.result) read c.steps_read.ensures
