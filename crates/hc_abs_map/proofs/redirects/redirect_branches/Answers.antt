use Rattle.hc_abs_map.proofs.Common.{None, Some, done}
use Rattle.hc_abs_pass.specs.Mapping.{redirects_plan}
use Rattle.hc_abs_map.proofs.Going.{goes_to_end}
use Rattle.hc_abs_map.specs.Along.{AreOn}
use Rattle.hc_abs_map.specs.Mapped.{RedirectedFits}
use Rattle.hc_abs_map.proofs.redirects.redirect_branches.Goals as goal

pub returns-clause-branches : goal.returns-clause-branches
returns-clause-branches c =
    goes_to_end (AreOn RedirectedFits (Some c.args.tied)) (AreOn RedirectedFits c.in_ok-rest.rest)
    (redirects_plan Some c.args.redirects.now) (done None) c.new-found.result.items c.past_redirects.new.found.items
    c.add_untaken.new.found.items c.new-found.ensures.items c.in_ok-rest.ensures c.in_ok-add_untaken.ensures
