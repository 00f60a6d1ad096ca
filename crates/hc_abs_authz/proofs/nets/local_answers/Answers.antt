use Rattle.hc_abs_authz.proofs.Locals.{local_may}
use Rattle.hc_abs_authz.proofs.nets.local_answers.Goals as goal

pub returns : goal.returns
returns c =
    local_may c.args.net.now c.may_be_local.ensures.net c.args.server c.may_be_local.result c.may_be_other.result
    c.may_be_local.ensures.value c.may_be_other.ensures
