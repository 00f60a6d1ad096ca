use Rattle.hc_rw_sets.proofs.Merging.{merging_accept}
use Rattle.hc_rw_sets.proofs.naming.merged_to.Goals as goal

pub returns : goal.returns
returns c = merging_accept c.args.texts.now _ c.in_ok-made.ensures
