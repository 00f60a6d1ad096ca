-- The physical lines of a text, as places between its bytes.
use Rattle.std.specs.Prelude.{◌≡◌, ℕ, ◌+◌, ◌≤◌, List, [], ◌∷◌, length, take, drop}
use Rattle.std.specs.Prelude.{if◌then◌else◌, Option, Some, None}
use Rattle.std.specs.List.{flat_map}
use Rattle.std.specs.Str.{IsUtf8}
use Rattle.hc_base.specs.Lines.{is_lf, pieces}
use Rattle.hc_world.specs.Edits.{is_range, spliced}

-- How many bytes the first line has, with its LF.
abbrev pub line_len : List ℕ → ℕ
line_len [] = 0
line_len (b ∷ bs) = if is_lf b then 1 else line_len bs + 1

-- So many lines end at a place.
pub record IsBehind (text : List ℕ) (lines at : ℕ) : Type 0 where
  pub within : at ≤ length text
  pub before : take at text ≡ flat_map (λ line. line) (take lines (pieces text))
  pub behind : drop lines (pieces text) ≡ pieces (drop at text)
  pub count : lines ≤ length (pieces text)
  pub whole : IsUtf8 (drop at text)

-- The text with these lines replaced, where it has them.
abbrev pub edited : List ℕ → ℕ → ℕ → List ℕ → Option (List ℕ)
edited text from to new =
    if is_range (length (pieces text)) from to then Some (spliced (pieces text) from to new) else None
