-- Bytes of parts of texts, and products of sets.
use Rattle.std.proofs.Common.{◌≡◌, ℕ, ◌<◌, ◌↔◌, List, [], ◌∷◌, take, drop, Bool, true, false, refl, sym, ◌∙◌}
use Rattle.std.proofs.Common.{arith, subst, inl, inr, ◌⊎◌, IsTrue}
use Rattle.std.proofs.lemmas.Bool.{and_from, and_parts, not-true, not_from_false}
use Rattle.std.proofs.lemmas.List.{take-append-drop}
use Rattle.hc_base.specs.Bytes.{question}
use Rattle.hc_dfa.specs.Automata.{Automaton, accepts}
use Rattle.hc_dfa.specs.Built.{Accepts, product_of}
use Rattle.hc_dfa.specs.Texts.{IsText}
use Rattle.hc_dfa.specs.declared.products.Keep.TheVariants.{Both, FirstOnly}
use Rattle.hc_rw_sets.proofs.Joins.{joined_text, text_parts}
use Rattle.hc_sent.specs.Joints.{IsBare}
use Rattle.hc_sent.specs.Parts.{Joined, bare, behind_question}
use Rattle.hc_sent.specs.Sets.{IsAnswer}
use Rattle.hc_sent.specs.declared.parts.Part.{Part}
use Rattle.hc_sent.specs.declared.parts.Writing.{Writing}
use Rattle.hc_sent.specs.declared.parts.Writing.TheVariants.{AsIs, Escaped, Query, QueryAsIs}

-- ---- answers

pub answer_as : {P Q : Type 0} (is : Bool) → P ↔ Q → IsAnswer P is → IsAnswer Q is
answer_as true same said = same.0 said
answer_as false same said = λ held. said (same.1 held)

-- The first of two doesn't hold.
pub none_before : {P : Type 0} (Q : Type 0) (is : Bool) → (P → ⊥) → IsAnswer Q is → IsAnswer (P ⊎ Q) is
none_before Q true none said = inr said
none_before Q false none said = λ held. elim held [ inl first ↦ none first | inr second ↦ said second ]

-- ---- bytes

pub cut_text : (count : ℕ) (text : List ℕ) → IsText text → IsText (take count text) × IsText (drop count text)
cut_text count text bytes =
    text_parts (take count text) (drop count text) (subst IsText (sym (take-append-drop count text)) bytes)

behind_text : (own : List ℕ) → IsText own → IsText (behind_question own)
behind_text [] bytes = tt
behind_text (b ∷ own) bytes = (lit, bytes)
  where
    lit : question < 256
    lit = omega arith

pub bare_text : (part : Part) (text : List ℕ) → IsBare part text → IsText text
bare_text part text is = subst IsText (sym is.2) (by part.writing)
  where
    by : (writing : Writing) → IsText (bare writing is.0)
    by AsIs = is.1.0
    by Escaped = is.1.0
    by Query = behind_text is.0 is.1.0
    by QueryAsIs = behind_text is.0 is.1.0

pub parts_text : (parts : List Part) (text : List ℕ) → Joined parts text → IsText text
parts_text [] text is = subst IsText (sym is) tt
parts_text (part ∷ parts) text is =
    subst IsText (sym is.4)
    (joined_text (bare part.writing is.0) is.1 (bare_text part _ (is.0, is.2, refl)) (parts_text parts is.1 is.3))

-- ---- products

module _ (a b made : Automaton) (text : List ℕ) (bytes : IsText text) where
  pub of_both : Accepts made (product_of Both a b)
      → IsTrue (accepts made text) ↔ (IsTrue (accepts a text) × IsTrue (accepts b text))
  of_both same = (
    (λ is. and_parts _ _ (sym (same text bytes) ∙ is)),
    (λ are. same text bytes ∙ and_from _ _ are.0 are.1),
  )

  pub of_first : Accepts made (product_of FirstOnly a b)
      → IsTrue (accepts made text) ↔ (IsTrue (accepts a text) × (accepts b text ≡ false))
  of_first same = (
    (λ is. let parts = and_parts _ _ (sym (same text bytes) ∙ is) in (parts.0, not-true _ parts.1)),
    (λ are. same text bytes ∙ and_from _ _ are.0 (not_from_false _ are.1)),
  )
