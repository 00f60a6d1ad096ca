-- What a map gives for the keys of a set.
use Rattle.std.specs.Prelude.{◌≡◌, ℕ, ◌↔◌, IsTrue, List, true, Option, None, Some}
use Rattle.hc_dfa.specs.Automata.{accepts}
use Rattle.hc_dfa.specs.Texts.{IsText, TextSet}
use Rattle.hc_map.specs.declared.images.ImageSet.{ImageSet}

-- The text is what a key of the set has.
pub record IsValueOf (value : List ℕ → Option (List ℕ)) (keys : TextSet) (text : List ℕ) : Type 0 where
  pub key : List ℕ
  pub bytes : IsText key
  pub member : IsTrue (keys key)
  pub has : value key ≡ Some text

-- Some key of the set has none.
abbrev pub LacksValue : (List ℕ → Option (List ℕ)) → TextSet → Type 0
LacksValue value keys = (key : List ℕ) × IsText key × IsTrue (keys key) × (value key ≡ None)

-- The automaton accepts exactly the values, of all texts of bytes.
pub record IsImageOf (value : List ℕ → Option (List ℕ)) (keys : TextSet) (image : ImageSet) : Type 0 where
  pub values : (text : List ℕ) → IsText text → IsTrue (accepts image.values text) ↔ IsValueOf value keys text
  pub missing : (image.missing ≡ true) ↔ LacksValue value keys
