use Rattle.std.proofs.Common.{◌∙◌, ap, arith, refl, subst, sym, [], take, take_all, ◌++◌, ◌∷◌}
use Rattle.std.proofs.Common.{◌≡◌}
use Rattle.std.proofs.lemmas.List.{take_more}
use Rattle.hc_plan.specs.Hands.{IsShape}
use Rattle.hc_plan.specs.declared.shape.Shape.TheVariants.{Known}
use Rattle.hc_plan.proofs.Shapes.{one_more}
use Rattle.hc_plan.proofs.shape.shape_of.Goals as goal

pub loop-element-init : goal.loop-element-init
loop-element-init c = record { now = []; reads = refl; bytes = tt; is = ap Known c.new.ensures }

pub loop-element-preserved : goal.loop-element-preserved
loop-element-preserved c =
    let cell = c.args.cell.now in
    let elements = c.args.elements.now in
    let i = c.loop-element.element-index in
    subst (λ front. IsShape cell front c.in_ok-shape.shape)
    (sym (take_more elements i c.element-item.result c.loop-element-test.true
    ∙ ap (λ element. take i elements ++ element ∷ []) (sym c.element-item.is)))
    (subst (IsShape cell _) (sym c.in_ok-shape.ensures)
    (one_more cell (take i elements) _ c.loop-element.shape c.in_ok-next.next c.loop-element.invariant
    c.in_ok-next.ensures))

pub returns : goal.returns
returns c =
    let all : take c.loop-element.element-index c.args.elements.now ≡ c.args.elements.now = grind (arith, take_all) in
    subst (λ elements. IsShape c.args.cell.now elements c.loop-element.shape) all c.loop-element.invariant
