-- The texts that elements may be.
use Rattle.hc_plan.proofs.Common.{◌≡◌, ◌∙◌, ℕ, List, [], ◌∷◌, ◌++◌, refl, sym, ap, subst}
use Rattle.hc_plan.proofs.Common.{and_both, and_left, and_right}
use Rattle.std.proofs.Common.{map}
use Rattle.hc_cells.specs.Cells.{Sets, holds}
use Rattle.hc_dfa.specs.Automata.{Automaton, accepts}
use Rattle.hc_dfa.specs.Built.{Accepts}
use Rattle.hc_dfa.specs.Texts.{IsText}
use Rattle.hc_pat_lang.specs.Sets.{AcceptsOnly}
use Rattle.hc_plan.proofs.Made.{is_text, text_is}
use Rattle.std.specs.Cmp.Lexicographic.{bytes_decides, same_text}
use Rattle.std.specs.List.{AllByRecursion}
use Rattle.hc_dfa.specs.Singles.{single}
use Rattle.hc_plan.specs.Hands.{HasParts, IsElementSet, IsOfBytes, IsPartsSet, parts_of}
use Rattle.hc_plan.specs.Slots.{Slot}
use Rattle.hc_pat_lang.specs.Sets.{AreJoined, IsBehind}
use Rattle.hc_plan.specs.declared.hand.Element.{Element}
use Rattle.hc_plan.specs.declared.hand.Element.TheVariants as element

-- ---- one element

pub free_set : (sets : Sets) (set copy : Automaton) → copy ≡ set → IsElementSet sets (element.Free set) copy
free_set sets set copy is = record {
  accepts = λ text bytes. (
    (λ accepted. and_both (text_is text bytes) (ap (λ a. accepts a text) (sym is) ∙ accepted)),
    (λ has. ap (λ a. accepts a text) is ∙ and_right _ (accepts set text) has),
  );
  bytes = tt;
}

pub known_set : (sets : Sets) (own text : List ℕ) (made : Automaton) → Accepts made (single own) → own ≡ text
    → IsText text
    → IsElementSet sets (element.Known text) made
known_set sets own text made is same own_bytes = record {
  accepts = λ other bytes. (
    (λ accepted. same_text other own (sym (sym (is other bytes) ∙ accepted)) ∙ same),
    (λ has. is other bytes ∙ ap (λ text. single own text) (has ∙ sym same) ∙ (bytes_decides own own).1 refl),
  );
  bytes = own_bytes;
}

pub open_set : (sets : Sets) (slot : Slot) (skip : ℕ) (own made : Automaton) → Accepts own (holds sets slot)
    → AcceptsOnly (IsBehind (accepts own) skip) made → IsElementSet sets (element.Open slot skip) made
open_set sets slot skip own made is behind = record {
  accepts = λ text bytes. (
    (λ accepted.
        let of = (behind text bytes).0 accepted in
        (of.0, and_both (text_is of.0 of.1) (sym (is of.0 of.1) ∙ of.2), of.3)),
    (λ has.
        let own_bytes = is_text has.0 (and_left _ (holds sets slot has.0) has.1) in
        (behind text bytes).1 (
          has.0,
          own_bytes,
          is has.0 own_bytes
              ∙ and_right _ (holds sets slot has.0) has.1,
          has.2,
        )),
  );
  bytes = tt;
}

-- ---- elements joined

-- Each automaton accepts what its element may be.
abbrev pub AcceptEach : Sets → List Element → List Automaton → Type 0
AcceptEach sets [] made = made ≡ []
AcceptEach sets (element ∷ elements) made =
    (first : Automaton) × (rest : List Automaton) × (made ≡ first ∷ rest) × IsElementSet sets element first
    × AcceptEach sets elements rest

pub one_set_more : (sets : Sets) (elements : List Element) (element : Element) (made : List Automaton) (one : Automaton)
    → AcceptEach sets elements made → IsElementSet sets element one
    → AcceptEach sets (elements ++ element ∷ []) (made ++ one ∷ [])
one_set_more sets [] element made one each is = (one, [], ap (λ made. made ++ one ∷ []) each, is, refl)
one_set_more sets (first ∷ elements) element made one each is = (
  each.0,
  each.1 ++ one ∷ [],
  ap (λ made. made ++ one ∷ []) each.2,
  each.3,
  one_set_more sets elements element each.1 one each.4 is,
)

front_bytes : (front rest : List ℕ) → IsText (front ++ rest) → IsText front
front_bytes [] rest is = tt
front_bytes (b ∷ front) rest is = (is.0, front_bytes front rest is.1)

rest_bytes : (front rest : List ℕ) → IsText (front ++ rest) → IsText rest
rest_bytes [] rest is = is
rest_bytes (b ∷ front) rest is = rest_bytes front rest is.1

to_parts : (sets : Sets) (elements : List Element) (made : List Automaton) (text : List ℕ)
    → AcceptEach sets elements made → IsText text → AreJoined (map accepts made) text
    → HasParts sets elements text
to_parts sets [] made text each bytes joined = subst (λ made. AreJoined (map accepts made) text) each joined
to_parts sets (element ∷ elements) made text each bytes joined =
    let is = subst (λ made. AreJoined (map accepts made) text) each.2 joined in
    let whole = subst IsText is.2 bytes in (
      is.0,
      is.1,
      is.2,
      (each.3.accepts is.0 (front_bytes is.0 is.1 whole)).0 is.3,
      to_parts sets elements each.1 is.1 each.4 (rest_bytes is.0 is.1 whole) is.4,
    )

from_parts : (sets : Sets) (elements : List Element) (made : List Automaton) (text : List ℕ)
    → AcceptEach sets elements made → IsText text → HasParts sets elements text
    → AreJoined (map accepts made) text
from_parts sets [] made text each bytes has = subst (λ made. AreJoined (map accepts made) text) (sym each) has
from_parts sets (element ∷ elements) made text each bytes has =
    let whole = subst IsText has.2 bytes in
    subst (λ made. AreJoined (map accepts made) text) (sym each.2) (
      has.0,
      has.1,
      has.2,
      (each.3.accepts has.0 (front_bytes has.0 has.1 whole)).1 has.3,
      from_parts sets elements each.1 has.1 each.4 (rest_bytes has.0 has.1 whole) has.4,
    )

all_bytes : (sets : Sets) (elements : List Element) (made : List Automaton) → AcceptEach sets elements made
    → AllByRecursion IsOfBytes (parts_of elements)
all_bytes sets [] made each = tt
all_bytes sets (element ∷ elements) made each = (each.3.bytes, all_bytes sets elements each.1 each.4)

pub all_sets : (sets : Sets) (elements : List Element) (made : List Automaton) → AcceptEach sets elements made
    → (all : Automaton) → AcceptsOnly (AreJoined (map accepts made)) all → IsPartsSet sets elements all
all_sets sets elements made each all is = record {
  accepts = λ text bytes. (
    (λ accepted. to_parts sets elements made text each bytes ((is text bytes).0 accepted)),
    (λ has. (is text bytes).1 (from_parts sets elements made text each bytes has)),
  );
  bytes = all_bytes sets elements made each;
}
