use Rattle.std.proofs.Common.{◌∙◌, None, Some, sym}
use Rattle.hc_abs_view.proofs.Testing.{always_failed, always_held}
use Rattle.hc_abs_view.specs.declared.sides.Sides.{Sides}
use Rattle.hc_abs_view.proofs.sides.always_sides.Goals as goal

pub returns-then-counted : goal.returns-then-counted
returns-then-counted c =
    let sides : Sides = record { held = Some c.in_ok-cell.cell; failed = None } in
    always_held c.args.scene c.args.tied.now c.args.is c.args.negated sides (sym c.counted.ensures ∙ c.if-counted.true)
    (λ i. record { held = Some (c.in_ok-cell.ensures.cases i); failed = None })

pub returns : goal.returns
returns c =
    let sides : Sides = record { held = None; failed = Some c.in_ok-cell.cell } in
    always_failed c.args.scene c.args.tied.now c.args.is c.args.negated sides (sym c.counted.ensures ∙ c.if-counted.false)
    (λ i. record { held = None; failed = Some (c.in_ok-cell.ensures.cases i) })
