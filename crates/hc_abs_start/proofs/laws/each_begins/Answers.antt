use Rattle.hc_abs_start.proofs.Beginning.{each_begins}
use Rattle.hc_abs_start.proofs.laws.each_begins.Goals as goal

pub returns : goal.returns
returns c = each_begins
