use Rattle.std.proofs.Common.{◌∙◌, ◌∷◌, ◌+◌, None, Some, ap, drop, subst, sym}
use Rattle.std.proofs.lemmas.List.{drop_all, drop_more}
use Rattle.hc_cert.proofs.Faulty.{FirstAmong, cell_here, cell_over, none_among, told}
use Rattle.hc_cert.specs.Coded.{IsFirstIn}
use Rattle.hc_cert.proofs.faults.first_of.Goals as goal

pub returns-in-Some : goal.returns-in-Some
returns-in-Some c =
    let scene = c.args.scene in
    let of = c.args.condition in
    let cells = c.args.walked.now in
    let at = c.loop-own.own-index in
    let own = c.own-item.result in
    let found = c.in-Some.found in
    let next = drop_more cells at own c.loop-own-test.true ∙ ap (λ one. one ∷ drop (at + 1) cells) (sym c.own-item.is) in
    subst (λ number. FirstAmong scene of 0 cells (Some (told scene of number found))) (sym c.loop-own.invariant.0)
    (c.loop-own.invariant.1 (Some (told scene of at found))
    (subst (λ cells. FirstAmong scene of at cells (Some (told scene of at found))) (sym next)
    (cell_here scene of at own (drop (at + 1) cells) found
    (subst (IsFirstIn scene of own) c.in-Some.is c.in_ok-found.ensures))))

pub loop-own-preserved : goal.loop-own-preserved
loop-own-preserved c =
    let scene = c.args.scene in
    let of = c.args.condition in
    let cells = c.args.walked.now in
    let at = c.loop-own.own-index in
    let own = c.own-item.result in
    let next = drop_more cells at own c.loop-own-test.true ∙ ap (λ one. one ∷ drop (at + 1) cells) (sym c.own-item.is) in (
      ap (λ number. number + 1) c.loop-own.invariant.0,
      λ said later. c.loop-own.invariant.1 said (subst (λ cells. FirstAmong scene of at cells said) (sym next)
          (cell_over scene of at own (drop (at + 1) cells) said
          (subst (IsFirstIn scene of own) c.in_default.is c.in_ok-found.ensures) later)),
    )

pub returns : goal.returns
returns c =
    let scene = c.args.scene in
    let of = c.args.condition in
    let at = c.loop-own.own-index in
    c.loop-own.invariant.1 None (subst (λ cells. FirstAmong scene of at cells None)
    (sym (drop_all at c.args.walked.now c.loop-own-test.false)) (none_among scene of at))
