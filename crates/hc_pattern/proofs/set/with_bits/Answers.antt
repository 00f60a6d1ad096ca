use Rattle.hc_pattern.proofs.Sets.{has_bits_between}
use Rattle.hc_pattern.proofs.set.with_bits.Goals as goal

pub returns : goal.returns
returns c place = rw (c.saturating_sub.ensures, c.ones.ensures, c.ones-2.ensures)
    (has_bits_between c.args.bits c.args.from c.args.below place)
