use Rattle.hc_abs_authz.proofs.Networks.{fixed_may}
use Rattle.hc_abs_authz.proofs.nets.fixed_answers.Goals as goal

pub returns : goal.returns
returns c = fixed_may c.args.net.now c.some_client-client.ensures.net c.args.is
