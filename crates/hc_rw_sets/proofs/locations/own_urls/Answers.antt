use Rattle.hc_rw_sets.proofs.Roots.{urls_accept}
use Rattle.hc_rw_sets.proofs.locations.own_urls.Goals as goal

pub returns : goal.returns
returns c = urls_accept c.args.caller.now _ _ _ c.in_ok-roots.ensures c.in_ok-rests.ensures c.in_ok-made.ensures
