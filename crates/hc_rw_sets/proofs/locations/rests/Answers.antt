use Rattle.hc_rw_sets.proofs.Roots.{rests_accepted}
use Rattle.hc_rw_sets.proofs.locations.rests.Goals as goal

pub returns : goal.returns
returns c = rests_accepted _ _ _ c.in_ok-none.ensures c.in_ok-paths.ensures c.in_ok-made.ensures
