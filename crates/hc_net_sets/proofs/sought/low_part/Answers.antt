use Rattle.hc_net_sets.proofs.Common.{arith}
use Rattle.hc_net_sets.proofs.Powers.{base_some, group_fits}
use Rattle.hc_net_sets.specs.declared.sought.Family.TheVariants.{Six}
use Rattle.hc_net_sets.proofs.sought.low_part.Goals as goal

pub pow-requires : goal.pow-requires
pow-requires c = group_fits c.args.count (omega arith)

pub nonzero_rem-result : goal.nonzero_rem-result
nonzero_rem-result c = rw c.pow.ensures (base_some Six c.args.count)
