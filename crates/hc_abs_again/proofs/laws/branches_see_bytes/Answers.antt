use Rattle.hc_abs_again.proofs.Bytes.{branches_see_bytes}
use Rattle.hc_abs_again.proofs.laws.branches_see_bytes.Goals as goal

pub returns : goal.returns
returns c = branches_see_bytes
