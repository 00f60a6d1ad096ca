use Rattle.hc_abs_cuts.proofs.Common.{◌∙◌, ◌++◌, ◌∷◌, [], None, Some, true, refl, ap, subst, accepts}
use Rattle.hc_cells.specs.declared.slot.Slot.TheVariants as slot
use Rattle.hc_plan.specs.Ways.{IsTested, on}
use Rattle.hc_plan.specs.declared.hand.Element.TheVariants as element
use Rattle.hc_abs_cuts.proofs.exact.named_in.Goals as goal

pub returns-in-None : goal.returns-in-None
returns-in-None c =
    let tied = c.args.tied.now in (
      None,
      refl,
      subst (λ way. IsTested tied.cell tied.ties (element.Open slot.Name 0 ∷ []) 0 None (on true (accepts c.args.set.now))
          way) c.in-None.is
          (subst (λ elements. IsTested tied.cell tied.ties elements 0 None (on true (accepts c.args.set.now))
          c.in_ok-way.way) (c.deref.ensures.value ∙ c.in_ok-push.ensures.items
          ∙ ap (λ before. before ++ element.Open slot.Name 0 ∷ []) c.new-elements.ensures.items) c.in_ok-way.ensures),
    )

pub returns : goal.returns
returns c =
    let tied = c.args.tied.now in (
      Some c.in-Some.way,
      refl,
      subst (λ way. IsTested tied.cell tied.ties (element.Open slot.Name 0 ∷ []) 0 None (on true (accepts c.args.set.now))
          way) c.in-Some.is
          (subst (λ elements. IsTested tied.cell tied.ties elements 0 None (on true (accepts c.args.set.now))
          c.in_ok-way.way) (c.deref.ensures.value ∙ c.in_ok-push.ensures.items
          ∙ ap (λ before. before ++ element.Open slot.Name 0 ∷ []) c.new-elements.ensures.items) c.in_ok-way.ensures),
    )
