use Rattle.hc_abs_cuts.proofs.Common.{subst}
use Rattle.hc_abs_cuts.proofs.Placing.{places_are}
use Rattle.hc_abs_pass.proofs.Worlds.{seen_world}
use Rattle.hc_abs_cuts.proofs.places.places.Goals as goal

pub returns-clause-places : goal.returns-clause-places
returns-clause-places g c =
    places_are c.args.ground c.args.dir.now c.args.tied.now c.in_ok-ends.ends.items c.in_ok-found.found.items
    (seen_world _) c.in_ok-ends.ensures c.in_ok-found.ensures.places
