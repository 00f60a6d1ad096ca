use Rattle.std.proofs.Common.{subst, sym}
use Rattle.hc_abs_authz.proofs.Lines.{client_leaf, next_net, past_nets}
use Rattle.hc_abs_authz.proofs.leaves.nets_answers.Goals as goal
use Rattle.hc_abs_authz.specs.Asking.{says}
use Rattle.hc_abs_pass.specs.Authorizing.{in_net}
use Rattle.hc_abs_authz.specs.Clients.{AreAnswers}
use Rattle.hc_addr.specs.Networks.{holds_in}

pub loop-net-preserved : goal.loop-net-preserved
loop-net-preserved c =
    next_net (says c.args.asking) c.args.nets.now c.loop-net.net-index _ c.loop-net.answers c.of_clients.result
    c.either_of-answers.result c.loop-net-test.true c.loop-net.invariant
    (subst (AreAnswers (says c.args.asking (in_net _))) (sym c.of_clients.ensures)
    (client_leaf c.args.asking.methods.now c.args.asking.net.now c.args.asking.some (holds_in _) c.net_answers.result
    c.requires c.net_answers.ensures))
    c.either_of-answers.ensures

pub returns : goal.returns
returns c =
    past_nets (says c.args.asking) c.args.nets.now c.loop-net.net-index c.loop-net.answers c.loop-net-test.false
    c.loop-net.invariant
