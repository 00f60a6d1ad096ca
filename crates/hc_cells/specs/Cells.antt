-- Cells: a set for each slot that is there.
use Rattle.std.specs.List.{sum_by}
use Rattle.std.specs.Prelude.{◌≡◌, ℕ, ◌-◌, nat_lt, ◌&&◌, not, cond, IsTrue, List, map, Option, None, Some, Bool, true}
use Rattle.std.specs.Prelude.{false}
use Rattle.std.specs.Map.{lookup}
use Rattle.std.specs.Rc.{rc_value}
use Rattle.std.specs.declared.cmp.Ordering.TheVariants.{Less}
use Rattle.std.specs.declared.rc.Rc.{Rc}
use Rattle.hc_dfa.specs.Automata.{Automaton, accepts, states}
use Rattle.hc_dfa.specs.Built.{Accepts}
use Rattle.hc_dfa.specs.Texts.{IsText, TextSet, IsEmptySet, IsLeast}
use Rattle.hc_cells.specs.Slots.{slot_cmp, same_slot}
use Rattle.hc_cells.specs.declared.slot.Slot.{Slot}
use Rattle.hc_cells.specs.declared.slot.Slot.TheVariants as slot

-- The sets that are there, in the order of their slots.
abbrev pub Sets : Type 0
Sets = List (Slot × Automaton)

abbrev pub shared_set : {X Z : Type 0} → Rc X Z → X
shared_set shared = rc_value shared

abbrev pub sets_in : {Z : Type 0} → List (Slot × Rc Automaton Z) → Sets
sets_in entries = map (λ entry. (entry.0, shared_set entry.1)) entries

abbrev pub set_at : Sets → Slot → Option Automaton
set_at sets slot = lookup (same_slot slot) sets

-- A slot that isn't there holds any text.
abbrev pub of_set : Option Automaton → TextSet
of_set None text = true
of_set (Some set) text = accepts set text

abbrev pub holds : Sets → Slot → TextSet
holds sets slot = of_set (set_at sets slot)

-- The slot has this set, and all others are as they were.
abbrev pub Puts : Sets → Slot → Automaton → Sets → Type 0
Puts sets slot set made = (other : Slot) → set_at made other ≡ cond (same_slot slot other) (Some set)
    (set_at sets other)

-- The slot has its texts that are in the set, too, and all others are as they were.
pub record Restricts (sets : Sets) (slot : Slot) (set : TextSet) (made : Sets) : Type 0 where
  pub own : Automaton
  pub both : Accepts own (λ text. holds sets slot text && set text)
  pub puts : Puts sets slot own made

abbrev pub is_variable : Slot → Bool
is_variable (slot.Env name) = true
is_variable other = false

-- The slots of variables are not there, and all others are as they were.
abbrev pub LacksVariables : Sets → Sets → Type 0
LacksVariables sets made = (slot : Slot) → set_at made slot ≡ cond (is_variable slot) None (set_at sets slot)

-- How many states the sets have together.
abbrev pub states_in : Sets → ℕ
states_in sets = sum_by (λ entry. states entry.1) sets

-- What is left of a room; nothing where what is put into it doesn't fit.
abbrev pub room_left : ℕ → ℕ → Option ℕ
room_left room put = cond (nat_lt room put) None (Some (room - put))

-- Some slot holds no text.
abbrev pub HasEmptySlot : Sets → Type 0
HasEmptySlot sets = (slot : Slot) × IsEmptySet (holds sets slot)

-- Each text that the slot holds in the first cell it holds in the second.
abbrev pub IsWithinAt : Sets → Sets → Slot → Type 0
IsWithinAt a b slot = (text : List ℕ) → IsText text → IsTrue (holds a slot text) → IsTrue (holds b slot text)

abbrev pub IsWithin : Sets → Sets → Type 0
IsWithin a b = (slot : Slot) → IsWithinAt a b slot

-- The first slot that isn't within, and its least text outside.
pub record IsFirstOutside (a b : Sets) (slot : Slot) (text : List ℕ) : Type 0 where
  pub least : IsLeast (λ other. holds a slot other && not (holds b slot other)) text
  pub before : (other : Slot) → slot_cmp other slot ≡ Less → IsWithinAt a b other
