use Rattle.hc_abs_force.proofs.Settling.{settles}
use Rattle.hc_abs_force.proofs.laws.merges_settle.Goals as goal

pub returns : goal.returns
returns c = settles
