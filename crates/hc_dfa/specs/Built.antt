-- What the calls that make an automaton say of its test, and what a look for texts finds.
use Rattle.std.specs.Prelude.{◌≡◌, ℕ, ◌≤◌, ◌&&◌, ◌||◌, ◌↔◌, ◌⊎◌, not, IsTrue, List}
use Rattle.std.specs.Prelude.{[], ◌∷◌, length, map, slice_index, Bool, Option, None, Some}
use Rattle.std.specs.List.{AllByRecursion, Contains}
use Rattle.hc_dfa.specs.Automata.{Automaton, accepts}
use Rattle.hc_dfa.specs.Texts.{IsText, TextSet, IsLeast, comes_before}
use Rattle.hc_dfa.specs.declared.products.Keep.{Keep}
use Rattle.hc_dfa.specs.declared.products.Keep.TheVariants.{Both, Either, FirstOnly}
use Rattle.hc_dfa.specs.declared.include.Inclusion.{Inclusion}
use Rattle.hc_dfa.specs.declared.include.Inclusion.TheVariants.{Yes, No}

-- The automaton accepts the texts of the set.
abbrev pub Accepts : Automaton → TextSet → Type 0
Accepts a set = (text : List ℕ) → IsText text → accepts a text ≡ set text

-- What is kept of two tests.
abbrev pub kept : Keep → Bool → Bool → Bool
kept Both a b = a && b
kept Either a b = a || b
kept FirstOnly a b = a && not b

-- The set that a product keeps.
abbrev pub product_of : Keep → Automaton → Automaton → TextSet
product_of keep a b text = kept keep (accepts a text) (accepts b text)

-- The texts that the automaton does not accept.
abbrev pub complement_of : Automaton → TextSet
complement_of a text = not (accepts a text)

-- Each text of the first is one of the second, or this is the least that isn't.
abbrev pub Includes : Automaton → Automaton → Inclusion → Type 0
Includes a b Yes = (text : List ℕ) → IsText text → IsTrue (accepts a text) → IsTrue (accepts b text)
Includes a b (No text) = IsLeast (product_of FirstOnly a b) text

-- The answer by the least text of the first that isn't one of the second.
abbrev pub inclusion_of : Option (List ℕ) → Inclusion
inclusion_of None = Yes
inclusion_of (Some text) = No text

-- Each text comes before all that follow it.
abbrev pub IsInOrder : List (List ℕ) → Type 0
IsInOrder [] = Unit {0}
IsInOrder (text ∷ texts) = AllByRecursion (λ later. IsTrue (comes_before text later)) texts × IsInOrder texts

-- The first texts of the set in order, at most `count`: fewer only where the set has no more.
pub record AreFirst (set : TextSet) (count : ℕ) (texts : List (List ℕ)) : Type 0 where
  pub members : AllByRecursion (λ text. IsText text × IsTrue (set text)) texts
  pub ordered : IsInOrder texts
  pub few : length texts ≤ count
  pub first : (other : List ℕ) → IsText other → IsTrue (set other) →
      Contains texts other
      ⊎ ((length texts ≡ count) × AllByRecursion (λ text. IsTrue (comes_before text other)) texts)

-- The text is a member of the set with each byte replaced by its entry in the table.
pub record IsImage (a : Automaton) (table : List ℕ) (text : List ℕ) : Type 0 where
  pub original : List ℕ
  pub bytes : IsText original
  pub member : IsTrue (accepts a original)
  pub replaced : map (λ byte. slice_index table byte) original ≡ text

-- The automaton accepts exactly the images of the members of the set.
abbrev pub AcceptsImages : Automaton → List ℕ → Automaton → Type 0
AcceptsImages a table image = (text : List ℕ) → IsText text → IsTrue (accepts image text) ↔ IsImage a table text
