-- What a group of a pattern may hold.
use Rattle.std.specs.Prelude.{ℕ, List, [], length, ◌≤◌}
use Rattle.std.specs.List.{Contains}
use Rattle.hc_pat_lang.specs.Found.{MayHold}
use Rattle.hc_pattern.specs.Pattern.{Pattern}
use Rattle.hc_ways.specs.Kept.{Turns, all_ways}
use Rattle.hc_ways.specs.Ways.{Way}

-- A group of the pattern may hold this, on some way through some text of these.
pub record GroupHolds (P : List ℕ → Type 0) (pattern : Pattern) (number : ℕ) (piece : List ℕ) : Type 0 where
  pub text : List ℕ
  pub member : P text
  pub from : ℕ
  pub within : from ≤ length text
  pub way : Way Turns
  pub among : Contains (all_ways text pattern from []) way
  pub holds : MayHold text from way number piece
