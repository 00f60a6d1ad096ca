use Rattle.hc_abs_restart.proofs.Following.{own_paths, url_paths_are}
use Rattle.hc_abs_restart.proofs.paths.paths_of.Goals as goal

pub returns-in_default : goal.returns-in_default
returns-in_default c = own_paths c.args.restart c.args.texts c.in_default.is

pub returns : goal.returns
returns c =
    url_paths_are c.args.restart c.args.texts c.in-Some.engine c.in_ok-paths.paths c.in-Some.is c.base_of-base.ensures
    c.in_ok-paths.ensures
