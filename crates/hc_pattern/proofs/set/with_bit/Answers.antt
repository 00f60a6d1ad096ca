use Rattle.hc_pattern.proofs.Sets.{has_bit_set}
use Rattle.hc_pattern.proofs.set.with_bit.Goals as goal

pub returns : goal.returns
returns c other = has_bit_set c.args.bits c.args.place other c.requires
