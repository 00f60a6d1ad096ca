use Rattle.hc_nodes.proofs.Trees.{lines_have_one_tree}
use Rattle.hc_nodes.proofs.laws.lines_have_one_tree.Goals as goal

pub returns : goal.returns
returns c = lines_have_one_tree
