use Rattle.hc_net_sets.specs.Networks.{in_network}
use Rattle.hc_abs_view.proofs.sides.within_sides.Goals as goal

pub returns : goal.returns
returns c = c.in_ok-sides.ensures (in_network c.args.net) c.in_ok-set.ensures
