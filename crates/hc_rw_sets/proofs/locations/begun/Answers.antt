use Rattle.hc_rw_sets.proofs.Roots.{begun_accepts}
use Rattle.hc_rw_sets.proofs.locations.begun.Goals as goal

pub returns : goal.returns
returns c = begun_accepts c.args.front.now _ c.args.rest.now _ c.in_ok-first.ensures c.in_ok-made.ensures
