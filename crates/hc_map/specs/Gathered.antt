-- What the rows of a map's text give for a set of keys, as far as they were read.
use Rattle.std.specs.Prelude.{◌≡◌, ℕ, ◌<◌, ◌↔◌, IsTrue, List, false, slice_index, Option, Some}
use Rattle.std.specs.Char.{to_ascii_lowercase, to_ascii_uppercase}
use Rattle.std.specs.Option.{is_some, option_or}
use Rattle.hc_dfa.specs.Singles.{is_among}
use Rattle.hc_dfa.specs.Texts.{IsText, TextSet}
use Rattle.hc_map.specs.declared.images.Letters.{Letters}
use Rattle.hc_map.specs.declared.images.Letters.TheVariants.{Lower, Upper}
use Rattle.hc_map.specs.Images.{IsValueOf}
use Rattle.hc_map.specs.Maps.{Row}
use Rattle.hc_map.specs.Searching.{value_by_row}

-- What a key has after a row more.
abbrev pub with_row : (List ℕ → Option (List ℕ)) → Row → List ℕ → Option (List ℕ)
with_row value row key = option_or (value key) (value_by_row key (Some row))

-- The keys of the set that have a value, and their values.
pub record AreGathered (value : List ℕ → Option (List ℕ)) (set : TextSet) (keys values : List (List ℕ)) :
    Type 0 where
  pub known : (key : List ℕ) → IsTrue (set key) → is_among keys key ≡ is_some (value key)
  pub gained : (text : List ℕ) → IsTrue (is_among values text) ↔ IsValueOf value set text

-- The set has a text that is none of these.
abbrev pub HasOther : TextSet → List (List ℕ) → Type 0
HasOther set texts = (text : List ℕ) × IsText text × IsTrue (set text) × (is_among texts text ≡ false)

abbrev pub changed : Letters → ℕ → ℕ
changed Upper byte = to_ascii_uppercase byte
changed Lower byte = to_ascii_lowercase byte

abbrev pub IsTableOf : List ℕ → (ℕ → ℕ) → Type 0
IsTableOf table change = (byte : ℕ) → byte < 256 → slice_index table byte ≡ change byte
