use Rattle.std.proofs.Common.{◌∙◌, ap, sym, subst}
use Rattle.std.proofs.lemmas.Result.{IfOk-weaker}
use Rattle.std.specs.Result.{IfOk}
use Rattle.hc_plan.specs.Hands.{IsElementShape}
use Rattle.hc_plan.specs.declared.shape.Shape.TheVariants.{Known}
use Rattle.hc_plan.specs.declared.shape.Shape.TheVariants as shape
use Rattle.hc_plan.specs.declared.hand.Element.TheVariants as element
use Rattle.hc_plan.proofs.Shapes.{free_element, known_element, only_element, open_element}
use Rattle.hc_plan.proofs.shape.element_shape.Goals as goal

pub returns-in-Known : goal.returns-in-Known
returns-in-Known c =
    subst (λ element. IfOk c.known_shape.result (IsElementShape c.args.cell.now element)) (sym c.in-Known.is)
    (IfOk-weaker c.known_shape.result _ _ (λ s is. known_element c.args.cell.now c.in-Known.text s
    c.bytes_of.ensures.bytes (is ∙ ap Known c.bytes_of.ensures.value)) c.known_shape.ensures)

pub returns-in-Free : goal.returns-in-Free
returns-in-Free c = rw c.in-Free.is (free_element c.args.cell.now c.in-Free.field-0)

pub returns-in_ok-rest-in-Some : goal.returns-in_ok-rest-in-Some
returns-in_ok-rest-in-Some c = rw c.in-Open.is (only_element c.args.cell.now c.in-Open.slot c.in-Open.skip
    c.in-Some.only.now _ c.in-Some.ensures (ap Known c.in_ok-rest-in-Some.ensures))

pub returns-in_ok-clone-in-None : goal.returns-in_ok-clone-in-None
returns-in_ok-clone-in-None c =
    rw c.in-Open.is (subst (λ sole. IsElementShape c.args.cell.now (element.Open c.in-Open.slot c.in-Open.skip)
    (shape.Sole sole)) (sym (λ i. record {
      before = c.new.ensures i;
      slot = c.in_ok-clone-in-None.ensures.cases i;
      skip = c.in-Open.skip;
      after = c.new-in-None.ensures i;
    }))
    (open_element c.args.cell.now c.in-Open.slot c.in-Open.skip c.in-None.ensures))
