use Rattle.hc_abs_name.proofs.Walking.{ready_fit}
use Rattle.hc_abs_name.proofs.arrived.arrived_branches.Goals as goal

pub returns-clause-branches : goal.returns-clause-branches
returns-clause-branches g c =
    ready_fit c.args.ground c.args.decisions.now c.args.named c.args.aliased c.in_ok-ready.ready.items
    c.in_ok-found.found.items c.in_ok-ready.ensures.branches c.in_ok-found.ensures.branches
