use Rattle.hc_abs_authz.proofs.Networks.{net_may}
use Rattle.hc_abs_authz.proofs.nets.net_answers.Goals as goal

pub returns : goal.returns
returns c =
    net_may c.args.net.now c.is_nearest_in.ensures.net c.args.other.now c.is_nearest_in.ensures.other
    c.is_nearest_in.result c.is_farthest_in.result c.is_nearest_in.ensures.value c.is_farthest_in.ensures
