-- The first logical line of a text, and the first join of one.
use Rattle.std.specs.Prelude.{◌≡◌, ℕ, ◌+◌, ◌<◌, ◌≤◌, List, [], ◌∷◌, ◌++◌, length, take}
use Rattle.std.specs.Prelude.{drop, slice_index, if◌then◌else◌}
use Rattle.std.specs.List.{concat}
use Rattle.hc_base.specs.Bytes.{backslash, lf}
use Rattle.hc_base.specs.Lines.{pieces}
use Rattle.hc_lines.specs.Logical.{joins, runs, unjoined}

-- The physical lines of the first logical line, and those behind it.
abbrev pub first_run : List (List ℕ) → List (List ℕ)
first_run [] = []
first_run (piece ∷ pieces) = if joins piece then piece ∷ first_run pieces else piece ∷ []

abbrev pub after_run : List (List ℕ) → List (List ℕ)
after_run [] = []
after_run (piece ∷ pieces) = if joins piece then after_run pieces else pieces

-- A text begins with a logical line of these bytes and so many physical lines, and goes on so.
pub record StartsWith (text bytes : List ℕ) (count : ℕ) (behind : List ℕ) : Type 0 where
  pub run : List (List ℕ)
  pub cut : runs (pieces text) ≡ run ∷ runs (pieces behind)
  pub of_bytes : concat run ≡ bytes
  pub of_count : length run ≡ count
  pub whole : text ≡ bytes ++ behind
  pub some : 0 < count
  pub within : count ≤ length bytes

-- The first join of a text stands at this place.
pub record IsFirstJoin (text : List ℕ) (at : ℕ) : Type 0 where
  pub within : at + 2 ≤ length text
  pub first : slice_index text at ≡ backslash
  pub second : slice_index text (at + 1) ≡ lf
  pub rest : unjoined text ≡ take at text ++ unjoined (drop (at + 2) text)
