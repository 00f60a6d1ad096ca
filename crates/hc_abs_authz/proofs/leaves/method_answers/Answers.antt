use Rattle.hc_abs_authz.proofs.Lines.{method_leaf}
use Rattle.hc_abs_authz.proofs.leaves.method_answers.Goals as goal

pub returns : goal.returns
returns c =
    method_leaf c.args.asking.methods.now c.args.asking.net.now c.some_client-client.result
    c.some_client-client.ensures.client c.args.names.now c.in_ok-set.set c.in_ok-set.ensures c.in_ok-yes.yes
    c.in_ok-no.no c.in_ok-yes.ensures c.in_ok-no.ensures
