-- The texts that a text in hand may be, and those that a group holds in them.
use Rattle.hc_plan.proofs.Common.{◌≡◌, ◌∙◌, ◌&&◌, ℕ, List, drop, true, Option, IsSetOf, sym, ap, subst}
use Rattle.hc_plan.proofs.Common.{and_both, and_left, and_right}
use Rattle.hc_cells.specs.Cells.{Sets}
use Rattle.hc_dfa.specs.Automata.{Automaton, accepts}
use Rattle.hc_dfa.specs.Built.{Accepts}
use Rattle.hc_dfa.specs.Texts.{IsText}
use Rattle.hc_pat_lang.specs.Found.{IsGroupText}
use Rattle.hc_pat_lang.specs.Sets.{AcceptsOnly, IsBehind}
use Rattle.hc_pattern.specs.Pattern.{pattern_of}
use Rattle.hc_plan.proofs.Made.{dropped, groups_of_bytes, is_text, set_of_bytes, text_is}
use Rattle.hc_plan.proofs.Tested.{hand_bytes, lies_so_far}
use Rattle.hc_plan.specs.Hands.{IsPartsSet, cell_of, set_in, side_of}
use Rattle.hc_plan.specs.States.{AbsText, Has, PartsHave}
use Rattle.hc_plan.specs.Ways.{IsGroupSet, IsHand, IsHandSet, lying}
use Rattle.hc_plan.specs.declared.hand.Element.{Element}
use Rattle.hc_plan.specs.declared.held.Found.{Found}

module _ (sets : Sets) (elements : List Element) (off : ℕ) (side : Option Automaton) (whole lie made : Automaton)
    (parts : IsPartsSet sets elements whole) (lies : Accepts lie (lying (accepts whole) side))
    (behind : AcceptsOnly (IsBehind (accepts lie) off) made)
    (own : AbsText) (hand : IsHand (cell_of sets) elements off side own) where
  has_bytes : (x : List ℕ) → Has (cell_of sets) own x → IsText x
  has_bytes x has =
      subst IsText (sym has.3)
      (dropped own.off has.0 (hand_bytes sets elements parts.bytes off side own hand has.0 has.1))

  to_has : (x : List ℕ) → IsText x → accepts made x ≡ true → Has (cell_of sets) own x
  to_has x bytes accepted =
      let of = (behind x bytes).0 accepted in
      let on : (accepts whole of.0 && side_of side of.0) ≡ true = sym (lies of.0 of.1) ∙ of.2 in
      let has = subst (λ parts. PartsHave (cell_of sets) parts of.0) (sym hand.made)
      ((parts.accepts of.0 of.1).0 (and_left (accepts whole of.0) _ on)) in (
        of.0,
        has,
        lies_so_far (cell_of sets) own side hand.lies of.0 of.1 has ∙ and_right (accepts whole of.0) _ on,
        of.3 ∙ ap (λ off. drop off of.0) (sym hand.behind),
      )

  from_has : (x : List ℕ) → IsText x → Has (cell_of sets) own x → accepts made x ≡ true
  from_has x bytes has =
      let y = has.0 in
      let is = hand_bytes sets elements parts.bytes off side own hand y has.1 in
      let in_whole = (parts.accepts y is).1 (subst (λ parts. PartsHave (cell_of sets) parts y) hand.made has.1) in
      (behind x bytes).1 (
        y,
        is,
        lies y is ∙ and_both in_whole (sym (lies_so_far (cell_of sets) own side hand.lies y is has.1) ∙ has.2),
        has.3 ∙ ap (λ off. drop off y) hand.behind,
      )

  is_set : IsSetOf (set_in made) (Has (cell_of sets) own)
  is_set = set_of_bytes (accepts made) (Has (cell_of sets) own) has_bytes (λ x bytes. (to_has x bytes, from_has x bytes))

pub is_hand_set : (sets : Sets) (elements : List Element) (off : ℕ) (side : Option Automaton)
    (whole lie made : Automaton)
    → IsPartsSet sets elements whole → Accepts lie (lying (accepts whole) side)
    → AcceptsOnly (IsBehind (accepts lie) off) made → IsHandSet sets elements off side made
is_hand_set sets elements off side whole lie made parts lies behind own hand =
    is_set sets elements off side whole lie made parts lies behind own hand

-- ---- groups

-- A set of automata has texts of bytes, and says what its automaton says of them.
pub set_bytes : (made : Automaton) (P : List ℕ → Type 0) → IsSetOf (set_in made) P → (x : List ℕ) → P x → IsText x
set_bytes made P is x p = is_text x (and_left _ (accepts made x) ((is x).1 p))

pub set_accepts : (made : Automaton) (P : List ℕ → Type 0) → IsSetOf (set_in made) P → AcceptsOnly P made
set_accepts made P is x bytes = (
  (λ accepted. (is x).0 (and_both (text_is x bytes) accepted)),
  (λ p. and_right _ (accepts made x) ((is x).1 p)),
)

pub is_group_set : (found : Found) (number : ℕ) (texts made : Automaton)
    → IsHandSet found.cell found.elements.items found.off found.side texts
    → AcceptsOnly (IsGroupText (pattern_of found.pattern.now) (accepts texts) number) made
    → IsGroupSet found number made
is_group_set found number texts made is only own hand =
    let P = Has (cell_of found.cell) own in
    groups_of_bytes (pattern_of found.pattern.now) number P (accepts texts) (accepts made)
    (set_bytes texts P (is own hand)) (set_accepts texts P (is own hand)) only
