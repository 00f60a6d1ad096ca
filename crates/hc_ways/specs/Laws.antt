-- What holds of the ways of a pattern.
use Rattle.std.specs.Prelude.{◌≡◌, ℕ, suc, ◌-◌, ◌<◌, ◌≤◌, Bool, List, [], length, map, Some, None}
use Rattle.hc_pattern.specs.Pattern.{Pattern, repeat}
use Rattle.hc_ways.specs.Ways.{none, stop, behind, preferred, moving, any_turns}
use Rattle.hc_ways.specs.Kept.{Held, nothing_held, last_ways, all_ways, last_of_turns}

-- A repeat is its turns, one by one.
pub record IsItsTurns (text : List ℕ) (body : Pattern) (greedy : Bool) : Type 0 where
  -- more turns at least than at most
  pub fewer : (least most : ℕ) → most < least → last_ways text (repeat body least (Some most) greedy) ≡ none
  -- a turn that has to be
  pub counted : (least most : ℕ) → least ≤ most
      → last_ways text (repeat body (suc least) (Some (suc most)) greedy)
      ≡ behind (last_ways text body) (last_ways text (repeat body least (Some most) greedy))
  pub uncounted : (least : ℕ) → last_ways text (repeat body (suc least) None greedy)
      ≡ behind (last_ways text body) (last_ways text (repeat body least None greedy))
  -- no turn
  pub last : last_ways text (repeat body 0 (Some 0) greedy) ≡ stop
  -- a turn that may be
  pub further : (most : ℕ) → last_ways text (repeat body 0 (Some (suc most)) greedy)
      ≡ preferred greedy (behind (last_ways text body) (last_ways text (repeat body 0 (Some most) greedy)))
  -- a turn that may be and takes a byte
  pub endless : last_ways text (repeat body 0 None greedy)
      ≡ preferred greedy (behind (moving (last_ways text body)) (last_ways text (repeat body 0 None greedy)))

-- The number that turns without upper number are counted down by doesn't matter, from the number of
-- bytes that are left on.
abbrev pub IsEnough : List ℕ → Pattern → Bool → Type 0
IsEnough text body greedy = (bytes at : ℕ) (held : Held) → length text - at ≤ bytes
    → any_turns greedy (last_ways text body) bytes at held ≡ any_turns greedy (last_ways text body) (length text) at
    held

-- The ways with all their turns are the ways of a match, in their order, once all but the last turn
-- of each group are dropped.
abbrev pub AreTheirLastTurns : List ℕ → Pattern → Type 0
AreTheirLastTurns text pattern = (at : ℕ) → map last_of_turns (all_ways text pattern at [])
    ≡ last_ways text pattern at nothing_held
