use Rattle.hc_abs_restart.proofs.Following.{end_behind, name_behind}
use Rattle.hc_abs_restart.proofs.restart.behind.Goals as goal

pub returns-in-Over : goal.returns-in-Over
returns-in-Over c = end_behind c.args.restart c.args.one c.in-Over.tied c.in-Over.left c.in-Over.is

pub returns-in_ok-made-in-Name : goal.returns-in_ok-made-in-Name
returns-in_ok-made-in-Name c =
    name_behind c.args.restart c.args.one c.in-Name.named c.in-Name.aliased c.in_ok-made-in-Name.made c.in-Name.is
    c.in_ok-made-in-Name.ensures
