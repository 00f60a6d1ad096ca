use Rattle.hc_pattern.proofs.Sets.{has_byte_union}
use Rattle.hc_pattern.proofs.set.ByteSet.union.Goals as goal

pub returns : goal.returns
returns c byte = has_byte_union c.args.self c.args.other byte
