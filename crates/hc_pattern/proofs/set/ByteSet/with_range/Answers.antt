use Rattle.hc_pattern.proofs.Common.{◌-◌, refl}
use Rattle.hc_pattern.proofs.Sets.{has_range}
use Rattle.hc_pattern.proofs.set.ByteSet.with_range.Goals as goal

pub returns : goal.returns
returns c byte =
    has_range _ _ _ _ c.args.from c.args.to byte _ _ _ _ _ refl c.min.ensures c.min-2.ensures c.saturating_sub.ensures
    c.saturating_sub-2.ensures (c.with_bits.ensures byte)
    (c.with_bits-2.ensures (byte - 128))
