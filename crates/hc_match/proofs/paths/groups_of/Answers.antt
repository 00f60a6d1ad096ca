use Rattle.hc_match.proofs.Common.{◌∙◌, Some, None, get_or, take, sym, ap, kept_past, nothing_kept, kept_now}
use Rattle.hc_match.proofs.Common.{past, Passed}
use Rattle.std.proofs.lemmas.List.Sums.{fold_more}
use Rattle.hc_match.proofs.paths.groups_of.Goals as goal

pub pairs-preserved-in_default-step_at : goal.pairs-preserved-in_default-step_at
pairs-preserved-in_default-step_at c =
    let pairs = c.args.passed.now in
    let nothing : Passed = record { step = 0; at = 0; other = None } in
    let pair = get_or pairs c.pairs.pair-index nothing in
    c.pairs.invariant
    ∙ sym (ap (λ step. kept_past step pair.at (kept_now c.args.steps.now (take c.pairs.pair-index pairs)))
    (sym c.step_at.ensures ∙ c.in_default-step_at.is))
    ∙ sym (fold_more (past c.args.steps.now) nothing_kept pairs c.pairs.pair-index nothing c.pairs-test.true)

pub pairs-preserved : goal.pairs-preserved
pairs-preserved c =
    let pairs = c.args.passed.now in
    let nothing : Passed = record { step = 0; at = 0; other = None } in
    let pair = get_or pairs c.pairs.pair-index nothing in
    c.in_ok-pass.ensures
    ∙ ap (kept_past (Some c.in-Some.step) c.in-Ok.at) c.pairs.invariant
    ∙ ap (λ at. kept_past (Some c.in-Some.step) at (kept_now c.args.steps.now (take c.pairs.pair-index pairs)))
    c.in-Ok.ensures.1
    ∙ ap (λ step. kept_past step pair.at (kept_now c.args.steps.now (take c.pairs.pair-index pairs)))
    (sym (sym c.step_at.ensures ∙ c.in-Some.is))
    ∙ sym (fold_more (past c.args.steps.now) nothing_kept pairs c.pairs.pair-index nothing c.pairs-test.true)
