use Rattle.hc_pattern.proofs.Sets.{set_is}
use Rattle.hc_pattern.proofs.set.of_bits.Goals as goal

pub returns : goal.returns
returns c test is = set_is _ test c.ranges.low.fits c.ranges.high.fits is
