use Rattle.std.proofs.Common.{◌∙◌, refl, sym, subst}
use Rattle.std.proofs.lemmas.List.{nil_from_length}
use Rattle.std.proofs.Common.{eqb-true, eq-eqb, true≢false, arith}
use Rattle.std.specs.Vec.{vec_len}
use Rattle.std.specs.Prelude.{map, reverse}
use Rattle.hc_abs_view.specs.Tokens.{BeginWith, token_of}
use Rattle.hc_abs_view.proofs.Keeping.{begins_none, begins_some}
use Rattle.hc_abs_view.proofs.kept.kept_steps.Goals as goal

pub returns-then-is_empty : goal.returns-then-is_empty
returns-then-is_empty c =
    let kept = c.in_ok-kept.kept.items in
    let none = eqb-true (vec_len c.in_ok-kept.kept) 0 (sym c.is_empty.ensures ∙ c.if-is_empty.true) in
    subst (λ expr. BeginWith expr (map token_of (reverse c.push.new.self.items))) (sym c.steps.ensures)
    (begins_none c.steps.result.now kept c.push.new.self.items _ c.in_ok-kept.ensures
    (nil_from_length kept (omega (arith, none))) c.in_ok-push.ensures.items refl)

pub returns : goal.returns
returns c =
    let kept = c.in_ok-kept.kept.items in
    subst (λ expr. BeginWith expr (map token_of (reverse kept))) (sym c.steps.ensures)
    (begins_some c.steps.result.now kept c.in_ok-kept.ensures
    (λ none. true≢false (sym (eq-eqb (vec_len c.in_ok-kept.kept) 0 (omega (arith, none)))
    ∙ sym c.is_empty.ensures ∙ c.if-is_empty.false)))
