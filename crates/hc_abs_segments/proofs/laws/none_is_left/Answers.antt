use Rattle.hc_abs_segments.proofs.Passes.{none_is_left}
use Rattle.hc_abs_segments.proofs.laws.none_is_left.Goals as goal

pub returns : goal.returns
returns c = none_is_left
