use Rattle.hc_abs_again.proofs.Reached.{segments_reach}
use Rattle.hc_abs_again.proofs.laws.segments_reach.Goals as goal

pub returns : goal.returns
returns c = segments_reach
