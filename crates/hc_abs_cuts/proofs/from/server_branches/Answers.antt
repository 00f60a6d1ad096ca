use Rattle.hc_abs_cuts.proofs.Going.{server_fits}
use Rattle.hc_abs_cuts.proofs.from.server_branches.Goals as goal

pub returns-clause-branches : goal.returns-clause-branches
returns-clause-branches g c =
    server_fits c.args.ground c.args.tied c.in_ok-found.found.items c.in_ok-more.more.items c.append.new.self.items
    c.in_ok-append.ensures.items (rw c.begun_again.ensures at c.in_ok-found.ensures.branches)
    (rw (c.begun_again-2.ensures, c.in_ok-other.ensures) at c.in_ok-more.ensures.branches)
