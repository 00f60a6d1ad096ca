use Rattle.hc_expr.proofs.Grammatical.{only_tree}
use Rattle.hc_expr.proofs.laws.tokens_have_one_tree.Goals as goal

pub returns : goal.returns
returns c = only_tree
