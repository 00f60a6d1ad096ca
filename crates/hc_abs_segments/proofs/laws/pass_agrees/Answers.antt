use Rattle.hc_abs_segments.proofs.Server.{pass_agrees}
use Rattle.hc_abs_segments.proofs.laws.pass_agrees.Goals as goal

pub returns : goal.returns
returns c = pass_agrees
