use Rattle.hc_pattern.proofs.Common.{length}
use Rattle.hc_pattern.proofs.class.+with_ranges.Given as goal

abbrev pub decreases-with_ranges : goal.decreases-with_ranges
decreases-with_ranges l = length l.ranges.now
