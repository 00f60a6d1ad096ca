-- Sets of texts that are made of sets of texts.
use Rattle.std.specs.Prelude.{◌≡◌, ℕ, ◌↔◌, IsTrue, List, [], ◌∷◌, ◌++◌, drop}
use Rattle.hc_base.specs.Paths.{merge_slashes}
use Rattle.hc_dfa.specs.Automata.{Automaton, accepts}
use Rattle.hc_dfa.specs.Members.{IsOnly}
use Rattle.hc_dfa.specs.Texts.{IsText, TextSet}

-- The automaton accepts a text of bytes exactly where this holds of it.
abbrev pub AcceptsOnly : (List ℕ → Type 0) → Automaton → Type 0
AcceptsOnly P a = (text : List ℕ) → IsText text → IsTrue (accepts a text) ↔ P text

-- A text of the first set, and then one of the second.
pub record IsJoined (first second : TextSet) (text : List ℕ) : Type 0 where
  pub front : List ℕ
  pub back : List ℕ
  pub begins : IsTrue (first front)
  pub goes_on : IsTrue (second back)
  pub joined : front ++ back ≡ text

-- A text of each set, one behind the other.
abbrev pub AreJoined : List TextSet → List ℕ → Type 0
AreJoined [] text = text ≡ []
AreJoined (set ∷ sets) text =
    (front : List ℕ) × (rest : List ℕ) × (text ≡ front ++ rest) × IsTrue (set front) × AreJoined sets rest

-- Each set has one text alone, and these are they, one behind the other.
abbrev pub AreOnly : List Automaton → List ℕ → Type 0
AreOnly [] text = text ≡ []
AreOnly (set ∷ sets) text =
    (own : List ℕ) × (rest : List ℕ) × (text ≡ own ++ rest) × IsOnly (accepts set) own × AreOnly sets rest

-- What is left of a text of the set behind a text of the other one.
pub record IsRest (set by : TextSet) (text : List ℕ) : Type 0 where
  pub front : List ℕ
  pub bytes : IsText front
  pub begins : IsTrue (by front)
  pub member : IsTrue (set (front ++ text))

-- What stands in a text of the set before a text of the other one.
pub record IsFront (set by : TextSet) (text : List ℕ) : Type 0 where
  pub back : List ℕ
  pub bytes : IsText back
  pub goes_on : IsTrue (by back)
  pub member : IsTrue (set (text ++ back))

-- What is left of a text of the set without so many of its first bytes.
abbrev pub IsBehind : TextSet → ℕ → List ℕ → Type 0
IsBehind set count text = (m : List ℕ) × IsText m × IsTrue (set m) × (text ≡ drop count m)

-- A text of the set with each run of slashes as one.
pub record IsMerged (set : TextSet) (text : List ℕ) : Type 0 where
  pub original : List ℕ
  pub bytes : IsText original
  pub member : IsTrue (set original)
  pub merged : merge_slashes original ≡ text
