use Rattle.std.proofs.Common.{◌∙◌, ◌∷◌, ◌+◌, ◌<◌, ◌≤◌, [], None, Some, ap, drop, length, subst, sym}
use Rattle.std.proofs.lemmas.List.{drop_all, drop_more}
use Rattle.hc_cert.proofs.Said.{ManyFrom, few_here, many_here, none_many}
use Rattle.hc_cert.specs.Checking.{bare}
use Rattle.hc_cert.specs.Coded.{IsTooManyOf}
use Rattle.hc_cert.specs.declared.verdict.Condition.TheVariants as condition
use Rattle.hc_cert.specs.declared.verdict.TheConstants.{MOST_BRANCHES}
use Rattle.hc_cert.proofs.starting.too_many.Goals as goal

pub returns-then-branches-gt-MOST_BRANCHES : goal.returns-then-branches-gt-MOST_BRANCHES
returns-then-branches-gt-MOST_BRANCHES c =
    let cells = c.args.walked.now in
    let at = c.loop-own.own-index in
    let own = c.own-item.result in
    let next = drop_more cells at own c.loop-own-test.true ∙ ap (λ one. one ∷ drop (at + 1) cells) (sym c.own-item.is) in
    let many : MOST_BRANCHES < length own.branches.items =
    subst (λ count. MOST_BRANCHES < count) (ap length c.as_slice-branches.ensures.value)
    c.if-branches-gt-MOST_BRANCHES.true in
    subst (λ said. IsTooManyOf cells (Some said)) (sym c.bare.ensures)
    (subst (λ number. IsTooManyOf cells (Some (bare condition.Size number []))) (sym c.loop-own.invariant.0)
    (c.loop-own.invariant.1 (Some (bare condition.Size at []))
    (subst (λ cells. ManyFrom at cells (Some (bare condition.Size at []))) (sym next)
    (many_here at own (drop (at + 1) cells) many))))

pub loop-own-preserved : goal.loop-own-preserved
loop-own-preserved c =
    let cells = c.args.walked.now in
    let at = c.loop-own.own-index in
    let own = c.own-item.result in
    let next = drop_more cells at own c.loop-own-test.true ∙ ap (λ one. one ∷ drop (at + 1) cells) (sym c.own-item.is) in
    let few : length own.branches.items ≤ MOST_BRANCHES =
    subst (λ count. count ≤ MOST_BRANCHES) (ap length c.as_slice-branches.ensures.value)
    c.if-branches-gt-MOST_BRANCHES.false in (
      ap (λ number. number + 1) c.loop-own.invariant.0,
      λ said later. c.loop-own.invariant.1 said
          (subst (λ cells. ManyFrom at cells said) (sym next) (few_here at own (drop (at + 1) cells) said few later)),
    )

pub returns : goal.returns
returns c =
    let at = c.loop-own.own-index in
    c.loop-own.invariant.1 None (subst (λ cells. ManyFrom at cells None)
    (sym (drop_all at c.args.walked.now c.loop-own-test.false)) (none_many at))
