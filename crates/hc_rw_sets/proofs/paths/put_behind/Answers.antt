use Rattle.hc_rw_sets.proofs.Joins.{behind_text}
use Rattle.hc_rw_sets.proofs.paths.put_behind.Goals as goal

pub returns : goal.returns
returns c = behind_text c.args.front.now _ c.args.set.now _ c.in_ok-only.ensures c.in_ok-made.ensures
