-- A cell that loses its variables one by one.
use Rattle.hc_cells.proofs.Common.{◌≡◌, ◌∙◌, ℕ, List, [], ◌∷◌, ◌++◌, refl, ap, sym, cond, Bool, true, false}
use Rattle.hc_cells.proofs.Common.{Option, None, Some, length, arith, inl, inr, ◌⊎◌, true≢false, place_from_lookup}
use Rattle.hc_cells.proofs.Common.{Rc, option_map, shared_set, Automaton, Sets, set_at, same_slot, Slot, slice_get, slice_get_within}
use Rattle.hc_cells.proofs.Places.{EachBelow, each_more, slots_equal}
use Rattle.hc_cells.proofs.Slots.{same_slots}
use Rattle.hc_cells.specs.Cells.{LacksVariables, is_variable}

abbrev IsGone : Sets → Slot → Automaton → Type 0
IsGone made slot set = is_variable slot ≡ true → set_at made slot ≡ None

-- Some variables are not there any more, among them those of the first sets, so many.
pub record Loses (sets made : Sets) (n : ℕ) : Type 0 where
  pub fewer : (slot : Slot)
      → (set_at made slot ≡ set_at sets slot) ⊎ ((is_variable slot ≡ true) × (set_at made slot ≡ None))
  pub gone : EachBelow (IsGone made) sets n

pub none_lost : (sets made : Sets) → made ≡ sets → Loses sets made 0
none_lost sets made is = record {
  fewer = λ slot. inl (ap (λ made. set_at made slot) is);
  gone = λ j e less. absurd (omega (arith, less));
}

module _ {A : Type 0} (sets made : Sets) (xs : List A) (x : A) (slot : Slot) (set : Automaton)
    (at : slice_get sets (length xs) ≡ Some (slot, set)) (before : Loses sets made (length xs)) where
  -- The next one is no variable.
  pub one_kept : is_variable slot ≡ false → Loses sets made (length (xs ++ x ∷ []))
  one_kept other = record {
    fewer = before.fewer;
    gone = each_more (IsGone made) sets xs x slot set at before.gone (λ is. absurd (true≢false (sym is ∙ other)));
  }

  -- It is one, and is removed.
  module _ (later : Sets) (is : is_variable slot ≡ true)
      (removed : (other : Slot) → set_at later other ≡ cond (same_slot slot other) None (set_at made other)) where
    still : (other : Slot) → set_at made other ≡ None → set_at later other ≡ None
    still other none = removed other ∙ by (same_slot slot other)
      where
        by : (same : Bool) → cond same None (set_at made other) ≡ None
        by true = refl
        by false = none

    fewer_later : (other : Slot) → (same : Bool) → same_slot slot other ≡ same
        → (set_at later other ≡ set_at sets other) ⊎ ((is_variable other ≡ true) × (set_at later other ≡ None))
    fewer_later other true same =
        inr (
          sym (ap is_variable (same_slots slot other same)) ∙ is,
          removed other ∙ ap (λ same. cond same None (set_at made other)) same,
        )
    fewer_later other false apart = by (before.fewer other)
      where
        by : (set_at made other ≡ set_at sets other) ⊎ ((is_variable other ≡ true) × (set_at made other ≡ None))
            → (set_at later other ≡ set_at sets other) ⊎ ((is_variable other ≡ true) × (set_at later other ≡ None))
        by (inl same) = inl (removed other ∙ ap (λ same. cond same None (set_at made other)) apart ∙ same)
        by (inr none) = inr (none.0, still other none.1)

    pub one_lost : Loses sets later (length (xs ++ x ∷ []))
    one_lost = record {
      fewer = λ other. fewer_later other (same_slot slot other) refl;
      gone = each_more (IsGone later) sets xs x slot set at
          (λ j e less here is. still e.0 (before.gone j e less here is))
          (λ is. removed slot ∙ ap (λ same. cond same None (set_at made slot)) (slots_equal.refl slot));
    }

pub all_lost : (sets made : Sets) → Loses sets made (length sets) → LacksVariables sets made
all_lost sets made loses slot = by (is_variable slot) refl (loses.fewer slot)
  where
    gone : (found : Option Automaton) → set_at sets slot ≡ found → is_variable slot ≡ true
        → set_at made slot ≡ set_at sets slot → set_at made slot ≡ None
    gone None none is same = same ∙ none
    gone (Some set) found is same =
        let p = place_from_lookup (same_slot slot) sets set found in
        let key = same_slots slot p.1 p.3 in
        ap (set_at made) key ∙ loses.gone p.0 (p.1, set) (slice_get_within sets p.0 (p.1, set) p.2) p.2
        (sym (ap is_variable key) ∙ is)

    by : (is : Bool) → is_variable slot ≡ is
        → (set_at made slot ≡ set_at sets slot) ⊎ ((is_variable slot ≡ true) × (set_at made slot ≡ None))
        → set_at made slot ≡ cond is None (set_at sets slot)
    by true is (inl same) = gone (set_at sets slot) refl is same
    by true is (inr none) = none.1
    by false is (inl same) = same
    by false is (inr none) = absurd (true≢false (sym none.0 ∙ is))

-- Among shared ones, too.
pub removed_shared : {Z : Type 0} (own : Bool) (old : Option (Rc Automaton Z))
    → option_map shared_set (cond own None old) ≡ cond own None (option_map shared_set old)
removed_shared true old = refl
removed_shared false old = refl
