use Rattle.hc_abs_run.proofs.Common.{◌∙◌}
use Rattle.hc_abs_run.proofs.Past.{round_fits}
use Rattle.hc_abs_run.proofs.server.server_round.Goals as goal

pub returns-clause-branches : goal.returns-clause-branches
returns-clause-branches g c =
    round_fits c.args.ground c.root_of.result c.as_slice.result.now c.args.so_far c.args.tied
    c.in_ok-listed.listed.items c.in_ok-found.found.items c.requires.ground c.root_of.ensures
    (c.as_slice.ensures ∙ c.in_ok-rules.ensures) c.in_ok-listed.ensures.branches c.in_ok-found.ensures.branches
