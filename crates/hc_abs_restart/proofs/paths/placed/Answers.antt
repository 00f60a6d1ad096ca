use Rattle.hc_abs_restart.proofs.Common.{None, refl}
use Rattle.hc_abs_restart.proofs.Following.{path_placed}
use Rattle.hc_abs_restart.proofs.paths.placed.Goals as goal

pub returns : goal.returns
returns c =
    path_placed c.args.restart c.args.tied c.in_ok-texts.texts c.in_ok-paths.paths
    (record { tied = c.args.tied; text = c.in_ok-text.text; side = None }) c.in_ok-texts.ensures c.in_ok-paths.ensures
    refl c.in_ok-text.ensures refl
