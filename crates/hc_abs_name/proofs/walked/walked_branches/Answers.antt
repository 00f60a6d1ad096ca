use Rattle.hc_abs_name.proofs.Walking.{walk_fit}
use Rattle.hc_abs_name.proofs.walked.walked_branches.Goals as goal

pub returns-clause-branches : goal.returns-clause-branches
returns-clause-branches g c =
    walk_fit c.args.ground c.args.decisions.now c.args.named c.args.aliased c.in_ok-walked.walked.items
    c.in_ok-found.found.items c.in_ok-walked.ensures.branches c.in_ok-found.ensures.branches
