use Rattle.hc_pattern.proofs.Sets.{has_bit_not}
use Rattle.hc_pattern.proofs.set.flipped.Goals as goal

pub returns : goal.returns
returns c place within = has_bit_not c.args.bits place c.ranges.bits.fits within
