use Rattle.hc_net_sets.proofs.Powers.{base_fits, base_some}
use Rattle.hc_net_sets.proofs.sought.Family.number_at.Goals as goal

pub pow-requires : goal.pow-requires
pow-requires c = rw c.base.ensures (base_fits c.args.self c.args.place c.requires)

pub nonzero_div-result : goal.nonzero_div-result
nonzero_div-result c = rw (c.pow.ensures, c.base.ensures) (base_some c.args.self c.args.place)
