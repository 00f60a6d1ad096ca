-- What a match leaves for what stands outside its groups.
use Rattle.std.specs.Prelude.{◌≡◌, ℕ, ◌+◌, ◌-◌, ◌≤◌, List, length, Option, None, Some, false}
use Rattle.std.specs.List.{sum_by}
use Rattle.hc_base.specs.declared.place.Span.{Span}
use Rattle.hc_pattern.specs.Pattern.{Pattern}
use Rattle.hc_ways.specs.Kept.{Held, first_match}
use Rattle.hc_rank.specs.Ranks.{has_twice, is_used, least_rest, nests}

-- How many bytes a group holds.
abbrev pub held_length : Option Span → ℕ
held_length None = 0
held_length (Some span) = span.end - span.start

-- How many bytes the used groups hold together.
abbrev pub held_in : List ℕ → Held → ℕ
held_in used held = sum_by (λ number. held_length (held number)) used

-- After a match.
abbrev pub TakesItsRest : Type 0
TakesItsRest = (text : List ℕ) (pattern : Pattern) (used : List ℕ) (held : Held) → is_used used 0 ≡ false
    → has_twice used ≡ false → nests used pattern ≡ false → first_match text pattern ≡ Some held
    → held_in used held + least_rest used pattern ≤ length text
