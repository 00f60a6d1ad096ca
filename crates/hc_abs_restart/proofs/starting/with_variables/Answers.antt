use Rattle.std.proofs.Common.{take_all}
use Rattle.std.proofs.lemmas.List.{take_more}
use Rattle.hc_abs_restart.proofs.Common.{◌≡◌, ◌∙◌, ◌∷◌, ◌++◌, [], ap, arith, subst, sym, take}
use Rattle.hc_abs_restart.specs.Starting.{IsStarted}
use Rattle.hc_abs_restart.proofs.starting.with_variables.Goals as goal

pub loop-name-preserved : goal.loop-name-preserved
loop-name-preserved c =
    let names = c.args.names.now in
    let at = c.loop-name.name-index in
    subst (λ names. IsStarted c.args.before.now names c.in_ok-cell-2.cell)
    (ap (λ name. take at names ++ name ∷ []) c.name-item.is
    ∙ sym (take_more names at c.name-item.result c.loop-name-test.true))
    (c.in_ok-cell-2.ensures (take at names) c.loop-name.invariant)

pub returns : goal.returns
returns c =
    let all : take c.loop-name.name-index c.args.names.now ≡ c.args.names.now = grind (arith, take_all) in
    subst (λ names. IsStarted c.args.before.now names c.loop-name.cell) all c.loop-name.invariant
