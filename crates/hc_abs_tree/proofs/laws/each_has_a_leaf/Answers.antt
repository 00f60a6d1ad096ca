use Rattle.hc_abs_tree.proofs.Leaves.{each_has_leaf}
use Rattle.hc_abs_tree.proofs.laws.each_has_a_leaf.Goals as goal

pub returns : goal.returns
returns c = each_has_leaf
