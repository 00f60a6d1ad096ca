use Rattle.hc_abs_map.proofs.Components.{first_there}
use Rattle.hc_abs_map.proofs.first.first_exists.Goals as goal

pub returns : goal.returns
returns c =
    first_there c.args.world.now.files c.in_ok-paths.paths c.in_ok-made.made c.in_ok-paths.ensures c.in_ok-made.ensures
