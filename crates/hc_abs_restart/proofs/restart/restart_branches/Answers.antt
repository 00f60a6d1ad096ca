use Rattle.hc_abs_restart.proofs.Answering.{restart_fits}
use Rattle.hc_abs_restart.proofs.restart.restart_branches.Goals as goal

pub returns-clause-branches : goal.returns-clause-branches
returns-clause-branches c =
    restart_fits c.args.restart c.args.tied c.in_ok-found.found.items c.in_ok-further.further.items
    c.append.new.self.items c.in_ok-found.ensures c.in_ok-further.ensures c.in_ok-append.ensures.items
