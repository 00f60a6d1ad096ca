use Rattle.hc_abs_name.proofs.Walking.{named_behind, stopped_behind}
use Rattle.hc_abs_name.proofs.arrived.behind.Goals as goal

pub returns-in_ok-found-in-Over-clause-branches : goal.returns-in_ok-found-in-Over-clause-branches
returns-in_ok-found-in-Over-clause-branches g c =
    stopped_behind c.args.ground c.args.decisions.now c.args.one c.in-Over.tied c.in-Over.left
    c.in_ok-found-in-Over.found.items c.in-Over.is c.in_ok-found-in-Over.ensures

pub returns-in_ok-found-in-Name-clause-branches : goal.returns-in_ok-found-in-Name-clause-branches
returns-in_ok-found-in-Name-clause-branches g c =
    named_behind c.args.ground c.args.decisions.now c.args.one c.in-Name.named c.in-Name.aliased
    c.in_ok-found-in-Name.found.items c.in-Name.is c.in_ok-found-in-Name.ensures.branches
