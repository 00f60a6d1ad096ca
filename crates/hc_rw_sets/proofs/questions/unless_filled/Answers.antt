use Rattle.hc_rw_sets.proofs.Joins.{both_set, single_set}
use Rattle.hc_rw_sets.proofs.questions.unless_filled.Goals as goal

pub returns : goal.returns
returns c = both_set _ c.args.set.now _ _ (single_set _ _ c.in_ok-empty.ensures) c.in_ok-made.ensures
