use Rattle.hc_rw_sets.proofs.Roots.{paths_accepted}
use Rattle.hc_rw_sets.proofs.locations.own_paths.Goals as goal

pub returns : goal.returns
returns c =
    paths_accepted c.args.caller.now c.args.set.now _ _ _ c.in_ok-roots.ensures c.in_ok-rest.ensures
    c.in_ok-made.ensures
