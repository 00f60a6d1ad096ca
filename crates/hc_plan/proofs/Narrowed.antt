-- Slots that keep the texts in a set, and what a test leaves by the shape of its text.
use Rattle.std.proofs.Math.Seq.{take-length}
use Rattle.hc_plan.proofs.Common.{◌≡◌, ◌∙◌, ℕ, ◌<◌, ◌≤◌, length, drop, arith, ◌&&◌}
use Rattle.hc_plan.proofs.Common.{◌||◌, not, List, [], ◌∷◌}
use Rattle.hc_plan.proofs.Common.{◌++◌, Bool, true, false, Option, None, Some, refl, ap, sym, either, inl, inr}
use Rattle.hc_plan.proofs.Common.{append-nil, TextSet, and_right, subst}
use Rattle.std.proofs.Common.{◌-◌, take, slice_index_or, cond}
use Rattle.hc_cells.proofs.Places.{same_holds, slots_equal}
use Rattle.hc_cells.specs.Cells.{Sets, holds, of_set, Restricts, set_at}
use Rattle.hc_cells.specs.Slots.{same_slot}
use Rattle.hc_cells.specs.Ties.{in_slots, tied_to}
use Rattle.hc_cells.specs.declared.ties.Ties.{Ties}
use Rattle.hc_dfa.specs.Automata.{Automaton, accepts}
use Rattle.hc_dfa.specs.Built.{Accepts}
use Rattle.hc_dfa.specs.Texts.{IsEmptySet, IsText}
use Rattle.hc_plan.proofs.Made.{dropped}
use Rattle.hc_plan.specs.Slots.{Slot}
use Rattle.hc_dfa.specs.Placings.{between}
use Rattle.hc_plan.specs.States.{Sole, joined_with}
use Rattle.hc_plan.specs.Ways.{HasText, IsNarrowed, NarrowedBy, NarrowedOr, kept, met}

-- What each slot holds where one is restricted.
restricted : (sets made : Sets) (slot : Slot) (set : TextSet) → Restricts sets slot set made
    → (other : Slot) (m : List ℕ)
    → IsText m → holds made other m ≡ (holds sets other m && (not (same_slot slot other) || set m))
restricted sets made slot set r other m bytes = ap (λ found. of_set found m) (r.puts other)
    ∙ by (same_slot slot other) refl
  where
    alone : (b : Bool) → b ≡ (b && true)
    alone true = refl
    alone false = refl

    by : (same : Bool) → same_slot slot other ≡ same
        → of_set (cond same (Some r.own) (set_at sets other)) m ≡ (holds sets other m && (not same || set m))
    by true e = r.both m bytes ∙ ap (λ has. has && set m) (same_holds sets slot other e m)
    by false e = alone (holds sets other m)

twice : (h a b x : Bool) → ((h && (not a || x)) && (not b || x)) ≡ (h && (not (a || b) || x))
twice false a b x = refl
twice true false b x = refl
twice true true true true = refl
twice true true false true = refl
twice true true true false = refl
twice true true false false = refl

one_more : (sets mid : Sets) (slot : Slot) (slots : List Slot) (set : TextSet) → Restricts sets slot set mid
    → (other : Slot) (m : List ℕ) → IsText m → kept mid slots set other m ≡ kept sets (slot ∷ slots) set
    other m
one_more sets mid slot slots set r other m bytes =
    ap (λ has. has && (not (in_slots slots other) || set m)) (restricted sets mid slot set r other m bytes)
    ∙ twice (holds sets other m) (same_slot slot other) (in_slots slots other) (set m)

pub own_slot : (slot : Slot) (slots : List Slot) → in_slots (slot ∷ slots) slot ≡ true
own_slot slot slots = ap (λ same. same || in_slots slots slot) (slots_equal.refl slot)

pub none_left : (sets mid : Sets) (slot : Slot) (slots : List Slot) (set : TextSet) → Restricts sets slot set mid
    → IsEmptySet (holds mid slot) → NarrowedOr sets slot slots set None
none_left sets mid slot slots set r none = (
  slot,
  own_slot slot slots,
  (λ m bytes. sym (one_more sets mid slot slots set r slot m bytes)
      ∙ ap (λ has. has && (not (in_slots slots slot) || set m)) (none m bytes)),
)

last_kept : (sets mid : Sets) (slot : Slot) (set : TextSet) → Restricts sets slot set mid → HasText (holds mid slot)
    → IsNarrowed sets (slot ∷ []) set mid
last_kept sets mid slot set r some = record {
  keeps = λ other m bytes. restricted sets mid slot set r other m bytes
      ∙ ap (λ b. holds sets other m && b) (alone (same_slot slot other) (set m));
  some = λ other is. (
    some.0,
    some.1,
    sym (same_holds mid slot other (same (same_slot slot other) is) some.0)
        ∙ some.2,
  );
}
  where
    alone : (a x : Bool) → (not a || x) ≡ (not (a || false) || x)
    alone true x = refl
    alone false x = refl

    same : (a : Bool) → (a || false) ≡ true → a ≡ true
    same true is = refl
    same false is = is

pub last_narrowed : (sets mid : Sets) (slot : Slot) (rest : List Slot) (set : TextSet) → length rest < 1
    → Restricts sets slot set mid → HasText (holds mid slot) → NarrowedOr sets slot rest set (Some mid)
last_narrowed sets mid slot [] set none r some = last_kept sets mid slot set r some
last_narrowed sets mid slot (other ∷ rest) set none r some = absurd (omega arith)

-- A text in the set stays.
stays : (b x : Bool) → x ≡ true → (not b || x) ≡ true
stays true x e = e
stays false x e = refl

first_stays : (sets mid made : Sets) (slot : Slot) (slots : List Slot) (set : TextSet) → Restricts sets slot set mid
    → HasText (holds mid slot)
    → ((other : Slot) (m : List ℕ) → IsText m → holds made other m ≡ kept mid slots set other m)
    → HasText (holds made slot)
first_stays sets mid made slot slots set r some keeps =
    let m = some.0 in
    let own : (not (same_slot slot slot) || set m) ≡ true =
    and_right _ _ (sym (restricted sets mid slot set r slot m some.1) ∙ some.2) in
    let in_set : set m ≡ true = ap (λ same. not same || set m) (sym (slots_equal.refl slot)) ∙ own in
    (m, some.1, keeps slot m some.1 ∙ (λ i. some.2 i && (stays (in_slots slots slot) (set m) in_set) i))

pub narrowed_more : (sets mid : Sets) (slot following : Slot) (slots rest : List Slot) (set : TextSet)
    → following ∷ rest ≡ slots → Restricts sets slot set mid → HasText (holds mid slot)
    → (found : Option Sets)
    → NarrowedOr mid following rest set found → NarrowedOr sets slot slots set found
narrowed_more sets mid slot following slots rest set e r some None none = (
  none.0,
  ap (λ more. same_slot slot none.0 || more) (ap (λ all. in_slots all none.0) (sym e) ∙ none.1)
      ∙ last (same_slot slot none.0),
  (λ m bytes. sym (one_more sets mid slot slots set r none.0 m bytes)
      ∙ ap (λ all. kept mid all set none.0 m) (sym e) ∙ none.2 m bytes),
)
  where
    last : (b : Bool) → (b || true) ≡ true
    last true = refl
    last false = refl
narrowed_more sets mid slot following slots rest set e r some (Some made) is = record {
  keeps = λ other m bytes. keeps other m bytes ∙ one_more sets mid slot slots set r other m bytes;
  some = λ other in_all. elim (either (same_slot slot other) (in_slots slots other) in_all) [
    | inl same ↦ by_same other same (first_stays sets mid made slot slots set r some keeps)
    | inr more ↦ is.some other (ap (λ all. in_slots all other) e ∙ more)
  ];
}
  where
    keeps : (other : Slot) (m : List ℕ) → IsText m → holds made other m ≡ kept mid slots set other m
    keeps other m bytes = is.keeps other m bytes ∙ ap (λ all. kept mid all set other m) e

    by_same : (other : Slot) → same_slot slot other ≡ true → HasText (holds made slot)
        → HasText (holds made other)
    by_same other same has = (has.0, has.1, sym (same_holds made slot other same has.0) ∙ has.2)

-- A list by its first item and the rest.
pub first_and_rest : {X : Type 0} (xs : List X) (x : X) → 1 ≤ length xs → x ≡ slice_index_or xs 0 x
    → x ∷ take (length xs - 1) (drop 1 xs) ≡ xs
first_and_rest [] x some is = absurd (omega arith)
first_and_rest (y ∷ ys) x some is =
    let all : length (y ∷ ys) - 1 ≡ length ys = omega arith in
    λ i. is i ∷ (ap (λ n. take n ys) all ∙ take-length ys) i

-- ---- by another test of the same texts

narrowed_alike : (sets : Sets) (slots : List Slot) (set other : TextSet)
    → ((m : List ℕ) → IsText m → set m ≡ other m) → (found : Option Sets)
    → NarrowedBy sets slots set found
    → NarrowedBy sets slots other found
narrowed_alike sets slots set other alike None none = (
  none.0,
  none.1,
  (λ m bytes. ap (λ has. holds sets none.0 m && (not (in_slots slots none.0) || has))
      (sym (alike m bytes)) ∙ none.2 m bytes),
)
narrowed_alike sets slots set other alike (Some made) is = record {
  keeps = λ slot m bytes. is.keeps slot m bytes
      ∙ ap (λ has. holds sets slot m && (not (in_slots slots slot) || has)) (alike m bytes);
  some = is.some;
}

-- ---- the side

-- A test of what stands behind so many bytes.
pub shifted : (set own : TextSet) (off : ℕ) → ((x : List ℕ) → IsText x → own x ≡ set x)
    → (text : List ℕ) → IsText text
    → between [] off [] own text ≡ set (drop off text)
shifted set own off is text bytes = ap own (append-nil (drop off text)) ∙ is (drop off text) (dropped off text bytes)

pub joined_bytes : (one other : List ℕ) → IsText one → IsText other → IsText (one ++ other)
joined_bytes [] other first second = second
joined_bytes (b ∷ one) other first second = (first.0, joined_bytes one other first.1 second)

-- The members of a slot whose text is on a side.
framed : (side : Automaton) (met : TextSet) (sole : Sole) → Accepts side met → IsText sole.before
    → IsText sole.after
    → (m : List ℕ) → IsText m → between sole.before sole.skip sole.after (accepts side) m ≡ met
    (joined_with sole m)
framed side met sole is before after m bytes =
    is (joined_with sole m) (joined_bytes sole.before (drop sole.skip m ++ sole.after) before
    (joined_bytes (drop sole.skip m) sole.after (dropped sole.skip m bytes) after))

-- What a test leaves of a slot between known texts, by the members that keep it.
pub sole_left : (sets : Sets) (ties : Ties) (sole : Sole) (side : Automaton) (own members : TextSet)
    (before after : List ℕ) (slots : List Slot) (first found : Option Sets) → before ≡ sole.before
    → after ≡ sole.after → IsText sole.before → IsText sole.after → Accepts side own
    → ((m : List ℕ) → IsText m → members m ≡ accepts side (before ++ (drop sole.skip m ++ after)))
    → slots ≡ tied_to ties sole.slot → first ≡ found → NarrowedOr sets sole.slot slots members first
    → NarrowedBy sets (sole.slot ∷ tied_to ties sole.slot) (λ m. own (joined_with sole m)) found
sole_left sets ties sole side own members before after slots first found is_before is_after text_before text_after
    accepted keeps tied same narrowed =
    narrowed_alike sets (sole.slot ∷ tied_to ties sole.slot) members (λ m. own (joined_with sole m))
    (λ m bytes. keeps m bytes ∙ (λ i. accepts side (is_before i ++ (drop sole.skip m ++ is_after i)))
    ∙ framed side own sole accepted text_before text_after m bytes)
    found
    (subst (λ tied. NarrowedOr sets sole.slot tied members found) tied
    (subst (NarrowedOr sets sole.slot slots members) same narrowed))
