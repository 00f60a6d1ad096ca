use Rattle.hc_cells.proofs.Common.{◌∙◌, ap, cond, deref_pair, iter_end, iter_turn, length, length-map, option_map}
use Rattle.hc_cells.proofs.Common.{None, same_slot, shared_set, subst, sym}
use Rattle.hc_cells.proofs.Looking.{look_up}
use Rattle.hc_cells.proofs.Places.{place_shown}
use Rattle.hc_cells.proofs.Variables.{Loses, all_lost, none_lost, one_kept, one_lost, removed_shared}
use Rattle.hc_cells.proofs.cell.without_variables.Goals as goal

pub sets-init : goal.sets-init
sets-init c = none_lost _ _ (c.made.view_is ∙ c.in_ok-made.ensures.cases)

pub sets-preserved-then-not-is_variable : goal.sets-preserved-then-not-is_variable
sets-preserved-then-not-is_variable c =
    let turn = iter_turn deref_pair _ _ _ _ _ _ c.into_iter-slot-iterator.ensures.into_iter_gives.0 c.sets.yielded_by
    _ c.in-Some.is c.next.ensures.steps in
    one_kept _ _ _ _ _ _ (place_shown _ _ c.sets-slot-items.ensures _ _ turn.1) c.sets.invariant
    (sym c.is_variable.ensures ∙ c.if-not-is_variable.true)

pub sets-preserved : goal.sets-preserved
sets-preserved c =
    let turn = iter_turn deref_pair _ _ _ _ _ _ c.into_iter-slot-iterator.ensures.into_iter_gives.0 c.sets.yielded_by
    _ c.in-Some.is c.next.ensures.steps in
    one_lost _ _ _ _ _ _ (place_shown _ _ c.sets-slot-items.ensures _ _ turn.1) c.sets.invariant _
    (sym c.is_variable.ensures ∙ c.if-not-is_variable.false)
    (λ other. look_up _ other ∙ ap (option_map shared_set) (c.remove.ensures.updates.0 other) ∙ removed_shared _ _
    ∙ ap (λ found. cond (same_slot c.in-Some.slot.now other) None found) (sym (look_up _ other)))

pub sets-preserved-else-not-is_variable : goal.sets-preserved-else-not-is_variable
sets-preserved-else-not-is_variable c =
    let turn = iter_turn deref_pair _ _ _ _ _ _ c.into_iter-slot-iterator.ensures.into_iter_gives.0 c.sets.yielded_by
    _ c.in-Some.is c.next.ensures.steps in
    one_lost _ _ _ _ _ _ (place_shown _ _ c.sets-slot-items.ensures _ _ turn.1) c.sets.invariant _
    (sym c.is_variable.ensures ∙ c.if-not-is_variable.false)
    (λ other. look_up _ other ∙ ap (option_map shared_set) (c.remove.ensures.updates.0 other) ∙ removed_shared _ _
    ∙ ap (λ found. cond (same_slot c.in-Some.slot.now other) None found) (sym (look_up _ other)))

pub returns : goal.returns
returns c =
    let end = iter_end deref_pair _ _ _ _ _ _ c.into_iter-slot-iterator.ensures.into_iter_gives.0 c.sets.yielded_by
    c.in-None.is c.next.ensures.steps in
    all_lost _ _ (subst (Loses _ _) (end.1 ∙ sym (length-map c.sets-slot-items.result.now.entries _)
    ∙ ap length c.sets-slot-items.ensures) c.sets.invariant)
