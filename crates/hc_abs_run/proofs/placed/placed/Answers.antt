use Rattle.hc_abs_run.proofs.Placing.{placed_fits}
use Rattle.hc_abs_run.proofs.placed.placed.Goals as goal

pub returns-clause-branches : goal.returns-clause-branches
returns-clause-branches g c =
    placed_fits c.args.ground c.args.decisions.now c.args.substituted c.args.passed c.args.tied
    c.in_ok-mapped.mapped.items c.in_ok-found.found.items c.in_ok-mapped.ensures.branches c.in_ok-found.ensures.branches
