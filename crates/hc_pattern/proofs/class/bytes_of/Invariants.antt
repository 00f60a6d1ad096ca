use Rattle.hc_pattern.proofs.Common.{◌≡◌, ℕ, ◌||◌, length, map, has_byte, is_in_part, list_any, parts_of}
use Rattle.hc_pattern.specs.ClassViews.{placed_view}
use Rattle.hc_pattern.proofs.class.bytes_of.Given as goal

abbrev pub invariant-members : goal.invariant-members
invariant-members l =
    (b : ℕ) → (has_byte l.set b || list_any (is_in_part b) (parts_of (map placed_view l.rest)))
    ≡ list_any (is_in_part b) (parts_of (map placed_view l.members))

abbrev pub decreases-members : goal.decreases-members
decreases-members l = length l.rest
