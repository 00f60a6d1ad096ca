use Rattle.hc_rw_sets.proofs.Joins.{except_set, single_set}
use Rattle.hc_rw_sets.proofs.questions.filled.Goals as goal

pub returns : goal.returns
returns c = except_set _ c.args.set.now _ _ (single_set _ _ c.in_ok-empty.ensures) c.in_ok-made.ensures
