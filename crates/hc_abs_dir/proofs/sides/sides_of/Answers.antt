use Rattle.hc_abs_dir.proofs.Common.{◌∙◌, ◌++◌, ◌∷◌, [], None, false, ap, subst, accepts}
use Rattle.hc_plan.specs.declared.hand.Element.TheVariants as element
use Rattle.hc_abs_rw.specs.Trials.{AreWays}
use Rattle.hc_abs_dir.proofs.Siding.{sides_are}
use Rattle.hc_abs_dir.proofs.sides.sides_of.Goals as goal

pub returns : goal.returns
returns c =
    let tied = c.args.tied in
    sides_are c.args.slot c.args.set.now tied c.in_ok-ways.ways
    (record { held = c.tied_on.result; failed = c.tied_on-2.result })
    (subst (λ elements. AreWays tied.cell tied.ties elements 0 None false (accepts c.args.set.now) c.in_ok-ways.ways)
    (c.deref.ensures.value ∙ c.in_ok-push.ensures.items
    ∙ ap (λ before. before ++ element.Open c.args.slot 0 ∷ []) c.new-elements.ensures.items) c.in_ok-ways.ensures)
    c.tied_on.ensures c.tied_on-2.ensures
