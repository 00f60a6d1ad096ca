use Rattle.hc_cells.proofs.Common.{◌≡◌, ◌∙◌, sym, subst, Some, ◌&&◌, not, accepts, holds, All-turn}
use Rattle.hc_cells.proofs.Common.{iter_turn, iter_end, deref_pair, lookup, same_slot, slot_cmp, IsLeastOf}
use Rattle.hc_cells.proofs.Common.{IsFirstOutside, IsStrictlySortedBy, keys_of}
use Rattle.hc_cells.proofs.Looking.{found_shown, keys_shown}
use Rattle.hc_cells.proofs.Places.{IsCovered, all_places, all_within, covered, each_more, first_outside, place_shown}
use Rattle.hc_cells.proofs.containment.within.Goals as goal

pub returns-in-Some-2 : goal.returns-in-Some-2
returns-in-Some-2 c =
    let a = c.args.a.now in
    let b = c.args.b.now in
    let slot = c.in-Some.slot.now in
    let entries = c.sets-slot-items.result.now.entries in
    let gives = c.into_iter-slot-iterator.ensures.into_iter_gives in
    let turn = iter_turn deref_pair _ _ _ _ _ _ gives.0 c.sets.yielded_by _ c.in-Some.is c.next.ensures.steps in
    let found = All-turn deref_pair (λ e. lookup (same_slot e.0) entries ≡ Some e.1) _ _ _ _ _ _ _ gives.6 gives.0
    c.sets.yielded_by c.in-Some.is c.next.ensures.steps in
    let at = place_shown _ b c.sets-slot-items.ensures _ _ turn.1 in
    let own = found_shown entries b c.sets-slot-items.ensures slot _ found in
    let sorted = subst (λ keys. IsStrictlySortedBy slot_cmp keys)
    (sym (keys_shown entries) ∙ (λ i. keys_of (c.sets-slot-items.ensures i))) gives.5 in
    let least = subst (λ set. IsLeastOf (λ text. holds a slot text && not (accepts set text))
    (Some c.in-Some-2.text)) (c.set.ensures ∙ c.as_ref.ensures)
    (subst (IsLeastOf _) c.in-Some-2.is c.in_ok-text.ensures) in
    let first = first_outside a b sorted _ slot _ c.in-Some-2.text at own c.sets.invariant least in
    subst (IsFirstOutside a b c.in_ok-clone.field-0) (sym (c.in_ok-copy_of.ensures ∙ c.as_bytes.ensures))
    (subst (λ s. IsFirstOutside a b s c.in-Some-2.text) (sym c.in_ok-clone.ensures.cases) first)

pub sets-preserved : goal.sets-preserved
sets-preserved c =
    let a = c.args.a.now in
    let turn = iter_turn deref_pair _ _ _ _ _ _ c.into_iter-slot-iterator.ensures.into_iter_gives.0 c.sets.yielded_by
    _ c.in-Some.is c.next.ensures.steps in
    let none = subst (IsLeastOf _) c.in_default.is c.in_ok-text.ensures in
    each_more (λ slot set. IsCovered a slot (accepts set)) _ _ _ _ _
    (place_shown _ _ c.sets-slot-items.ensures _ _ turn.1) c.sets.invariant
    (subst (λ set. IsCovered a c.in-Some.slot.now (accepts set)) (c.set.ensures ∙ c.as_ref.ensures)
    (covered a _ _ none))

pub returns : goal.returns
returns c =
    let end = iter_end deref_pair _ _ _ _ _ _ c.into_iter-slot-iterator.ensures.into_iter_gives.0 c.sets.yielded_by
    c.in-None.is c.next.ensures.steps in
    all_within _ _ (all_places (λ slot set. IsCovered c.args.a.now slot (accepts set)) _ _ _
    c.sets-slot-items.ensures end.1 c.sets.invariant)
