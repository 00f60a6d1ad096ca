use Rattle.std.proofs.Common.{◌≡◌, take}
use Rattle.hc_model.proofs.authorization.+copy.Given as goal

-- the trees so far are copied
abbrev pub invariant-copy_trees-loop-tree : goal.invariant-copy_trees-loop-tree
invariant-copy_trees-loop-tree l = l.copy ≡ take l.tree-index l.trees
