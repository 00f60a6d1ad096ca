use Rattle.hc_abs_segments.proofs.Directory.{dir_round_agrees}
use Rattle.hc_abs_segments.proofs.laws.dir_round_agrees.Goals as goal

pub returns : goal.returns
returns c = dir_round_agrees
