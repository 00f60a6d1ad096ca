use Rattle.hc_abs_map.proofs.Common.{◌∙◌, ◌++◌, ◌∷◌, [], ap, subst}
use Rattle.hc_cells.specs.declared.slot.Slot.TheVariants as slot
use Rattle.hc_plan.specs.Ways.{IsHandSet}
use Rattle.hc_plan.specs.declared.storing.Stored.{Stored}
use Rattle.hc_abs_map.proofs.Placing.{path_stored}
use Rattle.hc_abs_map.proofs.placed.as_path.Goals as goal

pub returns : goal.returns
returns c =
    let named = c.args.named in
    let one : Stored = record { slot = slot.Path; set = c.in_ok-set.set } in
    path_stored named c.in_ok-set.set c.deref-2.result.now c.in_ok-made.made
    (subst (λ items. IsHandSet named.tied.cell items 0 named.side c.in_ok-set.set) c.deref.ensures.value
    c.in_ok-set.ensures)
    (c.deref-2.ensures.value ∙ c.in_ok-push.ensures.items ∙ ap (λ before. before ++ one ∷ []) c.new-stored.ensures.items)
    c.in_ok-made.ensures
