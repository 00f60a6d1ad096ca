use Rattle.hc_pattern.proofs.Common.{◌≡◌, length, falling, ranges_of}
use Rattle.hc_pattern.proofs.mark.falling.Given as goal

abbrev pub invariant-members : goal.invariant-members
invariant-members l = falling (ranges_of l.rest) ≡ falling (ranges_of l.members)

abbrev pub decreases-members : goal.decreases-members
decreases-members l = length l.rest
