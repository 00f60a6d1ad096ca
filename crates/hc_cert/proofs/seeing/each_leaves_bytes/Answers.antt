use Rattle.std.proofs.Common.{◌≡◌, ◌∙◌, ◌∷◌, ◌+◌, [], ap, arith, drop, subst, sym}
use Rattle.std.proofs.lemmas.List.{drop_all, drop_more}
use Rattle.std.specs.List.{AllByRecursion}
use Rattle.hc_cert.specs.Coded.{AreReady, LeavesBytesIn, named_in}
use Rattle.hc_cert.proofs.seeing.each_leaves_bytes.Goals as goal

pub loop-own-preserved : goal.loop-own-preserved
loop-own-preserved c =
    let inv = c.loop-own.invariant in
    let at = c.loop-own.own-index in
    let own = c.own-item.result in
    let next = drop_more c.args.cells.now at own c.loop-own-test.true
    ∙ ap (λ one. one ∷ drop (at + 1) c.args.cells.now) (sym c.own-item.is) in (
      (subst AreReady next inv.0).1,
      λ asked names fits rest. inv.1 asked names fits
          (subst (λ cells. AllByRecursion (LeavesBytesIn asked names) (named_in cells)) (sym next)
          (c.in_ok-leaves_bytes.ensures asked names fits, rest)),
    )

pub returns : goal.returns
returns c asked names fits =
    let cells = c.args.cells.now in
    let none : drop c.loop-own.own-index cells ≡ [] = grind (arith, drop_all) in
    c.loop-own.invariant.1 asked names fits
    (subst (λ cells. AllByRecursion (LeavesBytesIn asked names) (named_in cells)) (sym none) tt)
