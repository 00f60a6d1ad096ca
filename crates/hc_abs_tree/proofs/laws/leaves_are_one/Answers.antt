use Rattle.hc_abs_tree.proofs.One.{leaves_are_one}
use Rattle.hc_abs_tree.proofs.laws.leaves_are_one.Goals as goal

pub returns : goal.returns
returns c = leaves_are_one
