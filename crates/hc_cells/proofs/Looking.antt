-- What a cell's entries show.
use Rattle.hc_dfa.specs.Members.{IsOnly}
use Rattle.hc_cells.proofs.Common.{ℕ, subst, ◌<◌, arith, holds, ◌≡◌, List, [], ◌∷◌, refl, ap, sym}
use Rattle.hc_cells.proofs.Common.{◌&&◌, cond, Bool, true, false, Option, None, Some, AllZip, lookup}
use Rattle.hc_cells.proofs.Common.{lookup-map_values, keys_of, ◌∙◌, option_map, Rc, Automaton, accepts, Sets}
use Rattle.hc_cells.proofs.Common.{shared_set, sets_in, set_at, of_set, Puts, Restricts, same_slot, Slot}

pub look_up : {Z : Type 0} (es : List (Slot × Rc Automaton Z)) (slot : Slot)
    → set_at (sets_in es) slot ≡ option_map shared_set (lookup (same_slot slot) es)
look_up es slot = lookup-map_values shared_set (same_slot slot) es

-- Entries whose keys are equal, and whose sets are.
pub same_sets : {Z : Type 0} (es fs : List (Slot × Rc Automaton Z))
    → AllZip (λ p q. (q.0 ≡ p.0) × (q.1.value ≡ p.1.value)) es fs → sets_in fs ≡ sets_in es
same_sets [] [] h = refl
same_sets [] (f ∷ fs) h = absurd h
same_sets (e ∷ es) [] h = absurd h
same_sets (e ∷ es) (f ∷ fs) h = λ i. (h.0.0 i, h.0.1 i) ∷ same_sets es fs h.1 i

-- A set in the place of another among shared ones.
pub put_shared : {Z : Type 0} (own : Bool) (new : Rc Automaton Z) (old : Option (Rc Automaton Z))
    → option_map shared_set (cond own (Some new) old) ≡ cond own (Some new.value) (option_map shared_set old)
put_shared true new old = refl
put_shared false new old = refl

-- What is put in the place of all texts is the texts in both.
pub put_in_all : (sets : Sets) (slot : Slot) (set : Automaton) → set_at sets slot ≡ None → (made : Sets)
    → Puts sets slot set made → Restricts sets slot (accepts set) made
put_in_all sets slot set none made puts = record {
  own = set;
  both = λ text bytes. sym (ap (λ found. of_set found text && accepts set text) none);
  puts = puts;
}

pub keys_shown : {Z : Type 0} (es : List (Slot × Rc Automaton Z)) → keys_of (sets_in es) ≡ keys_of es
keys_shown [] = refl
keys_shown (e ∷ es) = ap (λ keys. e.0 ∷ keys) (keys_shown es)

-- The set of a slot that is found among the entries.
pub found_shown : {Z : Type 0} (es : List (Slot × Rc Automaton Z)) (sets : Sets) → sets_in es ≡ sets
    → (slot : Slot) (set : Rc Automaton Z) → lookup (same_slot slot) es ≡ Some set
    → set_at sets slot ≡ Some set.value
found_shown es sets shown slot set found =
    sym (ap (λ all. set_at all slot) shown) ∙ look_up es slot ∙ ap (option_map shared_set) found

-- A slot that isn't there has no only text.
pub no_only : (sets : Sets) (slot : Slot) → None ≡ set_at sets slot → (text : List ℕ)
    → IsOnly (holds sets slot) text
    → ⊥
no_only sets slot none text only =
    subst (λ (xs : List ℕ). elim xs as (λ _. Type 0) [ [] ↦ Unit {0} | b ∷ bs ↦ ⊥ ])
    (only.only [] tt (is []) ∙ sym (only.only (0 ∷ []) (byte, tt) (is (0 ∷ [])))) tt
  where
    is : (other : List ℕ) → holds sets slot other ≡ true
    is other = ap (λ found. of_set found other) (sym none)

    byte : 0 < 256
    byte = omega arith
