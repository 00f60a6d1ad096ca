use Rattle.hc_pattern.proofs.Common.{◌≡◌, ℕ, ◌||◌, length, has_byte, is_among, ranges_of}
use Rattle.hc_pattern.proofs.mark.bytes_among.Given as goal

abbrev pub invariant-members : goal.invariant-members
invariant-members l = (b : ℕ) → (has_byte l.set b || is_among b (ranges_of l.rest))
    ≡ is_among b (ranges_of l.members)

abbrev pub decreases-members : goal.decreases-members
decreases-members l = length l.rest
