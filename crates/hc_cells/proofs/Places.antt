-- The sets of a cell by their places.
use Rattle.hc_cells.proofs.Common.{◌≡◌, ℕ, ◌<◌, ◌≤◌, List, [], ◌∷◌, ◌++◌, refl, ap, sym}
use Rattle.hc_cells.proofs.Common.{◌∙◌, subst, Bool, true, false, IsTrue, Option, None, Some, length}
use Rattle.hc_cells.proofs.Common.{length-map, length-append, arith, rules, inl, inr, ◌⊎◌, ◌&&◌, not}
use Rattle.hc_cells.proofs.Common.{cases_lt, cases_order, true≢false, place_from_lookup, Less-from_sorted}
use Rattle.hc_cells.proofs.Common.{slice_get-map, slice_get_within, get_or_from_slice_get, IsTotalOrder}
use Rattle.hc_cells.proofs.Common.{IsEquivalence, eq_by_cmp_equiv, Equal-is, comparing, slice_get, IsStrictlySortedBy}
use Rattle.hc_cells.proofs.Common.{lookup, keys_of, option_map, is_eq, Less, Equal, Rc, Automaton, accepts, IsText}
use Rattle.hc_cells.proofs.Common.{TextSet, IsEmptySet, IsLeast, Sets, shared_set, sets_in, set_at, of_set, holds}
use Rattle.hc_cells.proofs.Common.{◌+◌, ◌-◌, cond, take, take_more, sum_by_push, states, states_in, room_left}
use Rattle.hc_cells.proofs.Common.{lt-ltb, le-ltb}
use Rattle.hc_cells.proofs.Common.{HasEmptySlot, IsWithinAt, IsWithin, IsFirstOutside, slot_cmp, same_slot, Slot}

pub slots_total : IsTotalOrder slot_cmp
slots_total = search (comparing, rules)

pub slots_equal : IsEquivalence same_slot
slots_equal = eq_by_cmp_equiv slots_total

-- This holds of each set below a place, with its slot.
abbrev pub EachBelow : (Slot → Automaton → Type 0) → Sets → ℕ → Type 0
EachBelow P sets n = (j : ℕ) (e : Slot × Automaton) → j < n → slice_get sets j ≡ Some e → P e.0 e.1

pub place_shown : {Z : Type 0} (es : List (Slot × Rc Automaton Z)) (sets : Sets) → sets_in es ≡ sets
    → (n : ℕ) (e : Slot × Rc Automaton Z) → slice_get es n ≡ Some e
    → slice_get sets n ≡ Some (e.0, e.1.value)
place_shown es sets shown n e at =
    ap (λ all. slice_get all n) (sym shown) ∙ slice_get-map _ es n
    ∙ ap (option_map (λ entry. (entry.0, shared_set entry.1))) at

same_some : {X : Type 0} (x y : X) → Some x ≡ Some y → x ≡ y
same_some x y e = ap (λ found. elim found [ Some z ↦ z | None ↦ x ]) e

pub each_more : {A : Type 0} (P : Slot → Automaton → Type 0) (sets : Sets) (xs : List A) (x : A) (slot : Slot)
    (set : Automaton) → slice_get sets (length xs) ≡ Some (slot, set) → EachBelow P sets (length xs)
    → P slot set → EachBelow P sets (length (xs ++ x ∷ []))
each_more P sets xs x slot set at before own j e less here =
    by (cases_lt j (length xs))
  where
    by : (j < length xs) ⊎ (length xs ≤ j) → P e.0 e.1
    by (inl h) = before j e h here
    by (inr h) =
        let last : length xs ≡ j = omega (arith, length-append xs (x ∷ [])) in
        subst (λ f. P f.0 f.1) (same_some _ _ (sym at ∙ ap (slice_get sets) last ∙ here)) own

-- ---- room

pub no_room : (room put : ℕ) → room < put → room_left room put ≡ None
no_room room put h = ap (λ less. cond less None (Some (room - put))) (lt-ltb room put h)

pub some_room : (room put left : ℕ) → put + left ≡ room → room_left room put ≡ Some left
some_room room put left e = ap (λ less. cond less None (Some (room - put))) (le-ltb room put (omega (arith, e)))
    ∙ ap Some (omega (arith, e))

-- What the sets up to a place take of a room with what is left of it.
pub takes_more : {A : Type 0} (sets : Sets) (xs : List A) (x : A) (entry : Slot × Automaton) (room left taken : ℕ)
    → slice_get sets (length xs) ≡ Some entry → taken ≡ states entry.1
    → states_in (take (length xs) sets) + left ≡ room
    → states_in (take (length (xs ++ x ∷ [])) sets) + left ≡ room + taken
takes_more sets xs x entry room left taken at is before =
    let more : states_in (take (length (xs ++ x ∷ [])) sets) ≡ states_in (take (length xs) sets) + states entry.1 =
    ap (λ n. states_in (take n sets)) (length-append xs (x ∷ []))
    ∙ ap states_in (take_more sets (length xs) entry (slice_get_within sets (length xs) entry at)
    ∙ ap (λ found. take (length xs) sets ++ found ∷ [])
    (get_or_from_slice_get sets (length xs) entry entry at))
    ∙ sum_by_push (λ e. states e.1) (take (length xs) sets) entry in
    omega (arith, more, is, before)

-- One slot by two names.
pub same_holds : (sets : Sets) (slot other : Slot) → same_slot slot other ≡ true → (text : List ℕ)
    → holds sets slot text ≡ holds sets other text
same_holds sets slot other same text = ap (λ (test : Slot → Bool). of_set (lookup test sets) text)
    (λ i at. slots_equal.congr slot other at same i)

pub own_holds : (sets : Sets) (slot : Slot) (set : Automaton) → set_at sets slot ≡ Some set → (text : List ℕ)
    → holds sets slot text ≡ accepts set text
own_holds sets slot set at text = ap (λ found. of_set found text) at

-- What holds of each set that is there holds of each slot, where all texts need no showing.
every_slot : (P : Slot → TextSet → Type 0) (sets : Sets) (n : ℕ)
    → EachBelow (λ slot set. P slot (accepts set)) sets n → (slot : Slot)
    → ((i : ℕ) (k : Slot) (set : Automaton) → slice_get sets i ≡ Some (k, set)
    → same_slot slot k ≡ true → i < n) → (found : Option Automaton) → set_at sets slot ≡ found
    → ((found ≡ None) ⊎ ((k : Slot) × (set : Automaton) × (found ≡ Some set)
    × (same_slot slot k ≡ true) × P k (accepts set)))
every_slot P sets n each slot within None at = inl refl
every_slot P sets n each slot within (Some set) at =
    let p = place_from_lookup (same_slot slot) sets set at in
    inr (p.1, set, refl, p.3, each p.0 (p.1, set) (within p.0 p.1 set p.2 p.3) p.2)

-- ---- cells with an empty slot

pub none_empty : (sets : Sets) → EachBelow (λ slot set. IsEmptySet (accepts set) → ⊥) sets (length sets)
    → HasEmptySlot sets → ⊥
none_empty sets each has = by (every_slot (λ slot set. IsEmptySet set → ⊥) sets (length sets) each has.0
    (λ i k set at same. slice_get_within sets i (k, set) at) (set_at sets has.0) refl)
  where
    by : ((set_at sets has.0 ≡ None) ⊎ ((k : Slot) × (set : Automaton) × (set_at sets has.0 ≡ Some set)
        × (same_slot has.0 k ≡ true) × (IsEmptySet (accepts set) → ⊥))) → ⊥
    by (inl none) = true≢false (sym (ap (λ found. of_set found []) none) ∙ has.1 [] tt)
    by (inr some) = some.4 (λ text bytes. sym (own_holds sets has.0 some.1 some.2 text) ∙ has.1 text bytes)

-- ---- cells within others

-- Each text that the slot holds is in the set.
abbrev pub IsCovered : Sets → Slot → TextSet → Type 0
IsCovered a slot set = (text : List ℕ) → IsText text → IsTrue (holds a slot text) → IsTrue (set text)

not_outside : (x y : Bool) → (x && not y) ≡ false → x ≡ true → y ≡ true
not_outside true true e h = refl
not_outside true false e h = absurd (true≢false e)
not_outside false y e h = absurd (true≢false (sym h))

pub covered : (a : Sets) (slot : Slot) (set : TextSet) → IsEmptySet (λ text. holds a slot text && not (set text))
    → IsCovered a slot set
covered a slot set none text bytes has = not_outside _ _ (none text bytes) has

within_at : (a b : Sets) (n : ℕ) → EachBelow (λ slot set. IsCovered a slot (accepts set)) b n → (slot : Slot)
    → ((i : ℕ) (k : Slot) (set : Automaton) → slice_get b i ≡ Some (k, set) → same_slot slot k ≡ true
    → i < n) → IsWithinAt a b slot
within_at a b n each slot within text bytes has = by (every_slot (IsCovered a) b n each slot within (set_at b slot)
    refl)
  where
    by : ((set_at b slot ≡ None) ⊎ ((k : Slot) × (set : Automaton) × (set_at b slot ≡ Some set)
        × (same_slot slot k ≡ true) × IsCovered a k (accepts set))) → IsTrue (holds b slot text)
    by (inl none) = ap (λ found. of_set found text) none
    by (inr some) = own_holds b slot some.1 some.2 text
        ∙ some.4 text bytes (sym (same_holds a slot some.0 some.3 text) ∙ has)

pub all_within : (a b : Sets) → EachBelow (λ slot set. IsCovered a slot (accepts set)) b (length b) → IsWithin a b
all_within a b each slot = within_at a b (length b) each slot (λ i k set at same. slice_get_within b i (k, set) at)

-- A slot before the one at a place stands at a lesser place.
stands_before : (b : Sets) → IsStrictlySortedBy slot_cmp (keys_of b)
    → (n : ℕ) (slot other : Slot) (set : Automaton) → slice_get b n ≡ Some (slot, set)
    → slot_cmp other slot ≡ Less → (i : ℕ) (k : Slot) (kept : Automaton)
    → slice_get b i ≡ Some (k, kept) → same_slot other k ≡ true → i < n
stands_before b sorted n slot other set at less i k kept here same = by (cases_order i n)
  where
    key : (m : ℕ) (s : Slot) (x : Automaton) → slice_get b m ≡ Some (s, x) → slice_get (keys_of b) m ≡ Some s
    key m s x e = slice_get-map _ b m ∙ ap (option_map (λ entry. entry.0)) e

    level : slot_cmp other k ≡ Equal
    level = (Equal-is (slot_cmp other k)).0 same

    apart : slot_cmp other k ≡ Less → ⊥
    apart e = true≢false (ap is_eq (sym level ∙ e))

    by : (i ≡ n) ⊎ ((i < n) ⊎ (n < i)) → i < n
    by (inl e) = absurd (apart (ap (slot_cmp other) (same_some _ _
        (sym (key i k kept here) ∙ ap (slice_get (keys_of b)) e ∙ key n slot set at)) ∙ less))
    by (inr (inl h)) = h
    by (inr (inr h)) =
        let far = slice_get_within (keys_of b) i k (key i k kept here) in
        let rises = Less-from_sorted slot_cmp (keys_of b) n i slot sorted h far in
        let one = get_or_from_slice_get (keys_of b) n slot slot (key n slot set at) in
        let two = get_or_from_slice_get (keys_of b) i k slot (key i k kept here) in
        absurd (apart (slots_total.trans other slot k less (sym (λ j. slot_cmp (one j) (two j)) ∙ rises)))

pub first_outside : (a b : Sets) → IsStrictlySortedBy slot_cmp (keys_of b)
    → (n : ℕ) (slot : Slot) (set : Automaton) (text : List ℕ) → slice_get b n ≡ Some (slot, set)
    → set_at b slot ≡ Some set → EachBelow (λ s x. IsCovered a s (accepts x)) b n
    → IsLeast (λ other. holds a slot other && not (accepts set other)) text → IsFirstOutside a b slot text
first_outside a b sorted n slot set text at found each least = record {
  least = subst (λ (has : TextSet). IsLeast (λ other. holds a slot other && not (has other)) text)
      (λ i other. sym (own_holds b slot set found other) i) least;
  before = λ other less. within_at a b n each other (stands_before b sorted n slot other set at less);
}

-- As many places as there are sets.
pub all_places : {A Z : Type 0} (P : Slot → Automaton → Type 0) (es : List (Slot × Rc Automaton Z)) (sets : Sets)
    (xs : List A) → sets_in es ≡ sets → length xs ≡ length es → EachBelow P sets (length xs)
    → EachBelow P sets (length sets)
all_places P es sets xs shown len each = subst (EachBelow P sets) (len ∙ sym (length-map es _) ∙ ap length shown)
    each
