use Rattle.hc_cells.proofs.Common.{◌≡◌, ap, sym, ◌∙◌, refl, true≢false, Some, IsEmptySet, accepts}
use Rattle.hc_cells.proofs.Common.{All-turn, iter_turn, iter_end, deref_pair, lookup, same_slot}
use Rattle.hc_cells.proofs.Looking.{found_shown}
use Rattle.hc_cells.proofs.Places.{all_places, each_more, none_empty, own_holds, place_shown}
use Rattle.hc_cells.proofs.cell.is_empty.Goals as goal

pub sets-preserved : goal.sets-preserved
sets-preserved c =
    let turn = iter_turn deref_pair _ _ _ _ _ _ c.into_iter-slot-iterator.ensures.into_iter_gives.0 c.sets.yielded_by
    _ c.in-Some.is c.next.ensures.steps in
    each_more (λ slot set. IsEmptySet (accepts set) → ⊥) _ _ _ _ _
    (place_shown _ _ c.sets-slot-items.ensures _ _ turn.1) c.sets.invariant
    (λ none. true≢false (sym (c.in_ok-has_none.ensures.1 (λ text bytes. ap (λ set. accepts set text)
    (c.set.ensures ∙ c.as_ref.ensures) ∙ none text bytes)) ∙ c.if-branch.false))

pub returns-then-branch : goal.returns-then-branch
returns-then-branch c =
    let slot = c.in-Some._slot.now in
    let entries = c.sets-slot-items.result.now.entries in
    let gives = c.into_iter-slot-iterator.ensures.into_iter_gives in
    let found = All-turn deref_pair (λ e. lookup (same_slot e.0) entries ≡ Some e.1) _ _ _ _ _ _ _ gives.6 gives.0
    c.sets.yielded_by c.in-Some.is c.next.ensures.steps in
    let at = found_shown entries _ c.sets-slot-items.ensures slot _ found in
    let none = c.in_ok-has_none.ensures.0 c.if-branch.true in (
      λ yes. (
        slot,
        λ text bytes. own_holds _ slot _ at text
            ∙ sym (ap (λ set. accepts set text) (c.set.ensures ∙ c.as_ref.ensures)) ∙ none text bytes,
      ),
      λ has. refl,
    )

pub returns : goal.returns
returns c =
    let end = iter_end deref_pair _ _ _ _ _ _ c.into_iter-slot-iterator.ensures.into_iter_gives.0 c.sets.yielded_by
    c.in-None.is c.next.ensures.steps in
    let each = all_places (λ slot set. IsEmptySet (accepts set) → ⊥) _ _ _ c.sets-slot-items.ensures end.1
    c.sets.invariant in
    (λ no. absurd (true≢false (sym no)), λ has. absurd (none_empty _ each has))
