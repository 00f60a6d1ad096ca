use Rattle.std.proofs.Common.{map, subst}
use Rattle.hc_abs_view.specs.Placing.{AreForked}
use Rattle.hc_abs_view.specs.Tokens.{fork_of}
use Rattle.hc_abs_view.proofs.Placing.{forks_viewed}
use Rattle.hc_abs_view.proofs.viewing.view_branches.Goals as goal

pub returns-clause-branches : goal.returns-clause-branches
returns-clause-branches c =
    let found = c.in_ok-found.found.items in
    forks_viewed c.args.scene (map (λ one. one.now) c.args.chain.now) c.args.expr.now
    (map fork_of c.in_ok-jumps.jumps.items) c.args.tied found c.in_ok-jumps.ensures
    (subst (λ jumps. AreForked c.args.scene (map fork_of jumps) c.args.tied found) c.deref.ensures.value
    c.in_ok-found.ensures)
