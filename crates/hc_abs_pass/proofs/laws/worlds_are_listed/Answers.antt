use Rattle.hc_abs_pass.proofs.Listable.{all_listed}
use Rattle.hc_abs_pass.proofs.laws.worlds_are_listed.Goals as goal

pub returns : goal.returns
returns c = all_listed
