-- Sets with one text alone.
use Rattle.std.specs.Prelude.{◌≡◌, ℕ, ◌<◌, IsTrue, List, ◌++◌}
use Rattle.std.specs.Prelude.{Option, None, Some}
use Rattle.hc_dfa.specs.Automata.{Automaton, value_on}
use Rattle.hc_dfa.specs.Texts.{IsText, TextSet}
use Rattle.hc_dfa.specs.declared.leasts.TheConstants.{NONE}
use Rattle.hc_dfa.specs.declared.only.Onward.{Onward}
use Rattle.hc_dfa.specs.declared.only.Onward.TheVariants.{Nowhere, By, Ways}

-- The set has this text alone.
pub record IsOnly (set : TextSet) (text : List ℕ) : Type 0 where
  pub bytes : IsText text
  pub member : IsTrue (set text)
  pub only : (other : List ℕ) → IsText other → IsTrue (set other) → other ≡ text

-- The text that is alone in the set, and `None` where none is.
abbrev pub IsOnlyOf : TextSet → Option (List ℕ) → Type 0
IsOnlyOf set None = (text : List ℕ) → IsOnly set text → ⊥
IsOnlyOf set (Some text) = IsOnly set text

-- What is found behind these bytes.
abbrev pub behind : List ℕ → Option (List ℕ) → Option (List ℕ)
behind bytes None = None
behind bytes (Some text) = Some (bytes ++ text)

-- The byte leads from the state to one from which a final one can be reached.
abbrev pub LeadsOn : Automaton → List ℕ → ℕ → ℕ → Type 0
LeadsOn a distances state byte = (byte < 256) × (value_on a distances state byte < NONE)

-- No byte leads on from the state, this one alone does, or several do.
abbrev pub IsOnward : Automaton → List ℕ → ℕ → Onward → Type 0
IsOnward a distances state Nowhere = (byte : ℕ) → LeadsOn a distances state byte → ⊥
IsOnward a distances state (By byte) = LeadsOn a distances state byte
    × ((other : ℕ) → LeadsOn a distances state other → other ≡ byte)
IsOnward a distances state Ways = (b d : ℕ) × LeadsOn a distances state b × LeadsOn a distances state d
    × (b ≡ d → ⊥)
