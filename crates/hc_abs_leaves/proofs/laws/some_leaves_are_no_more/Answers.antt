use Rattle.hc_abs_leaves.proofs.Fewer.{some_are_no_more}
use Rattle.hc_abs_leaves.proofs.laws.some_leaves_are_no_more.Goals as goal

pub returns : goal.returns
returns c = some_are_no_more
