-- A tree has one list of leaves.
use Rattle.std.proofs.Common.{◌≡◌, ◌∙◌, ℕ, zero, suc, List, [], ◌∷◌, ◌++◌, sym, ap₂, subst}
use Rattle.hc_plan.proofs.Unique.{unique}
use Rattle.hc_plan.specs.Branches.{Branch}
use Rattle.hc_abs_pass.specs.Passing.{Segment}
use Rattle.hc_abs_tree.specs.Leaves.{LeavesAreOne}
use Rattle.hc_abs_tree.specs.Trees.{Behind, Grown, Leaf, Next, Node, Soil, ends, goes, next_of, plan_at}
unfoldable use Rattle.hc_abs_tree.specs.Trees.{TreeIn}

module _ (One Other : Node → List Leaf → Type 0)
    (same : (node : Node) (one other : List Leaf) → One node one → Other node other → one ≡ other) where
  next_one : (next : Next) (one other : List Leaf) → Behind One next one → Behind Other next other → one ≡ other
  next_one (ends leaf) one other is also = is ∙ sym also
  next_one (goes further) one other is also = same further one other is also

  grown_one : (node : Node) (branches : List (Branch Segment)) (one other : List Leaf) → Grown One node branches one
      → Grown Other node branches other → one ≡ other
  grown_one node [] one other is also = is ∙ sym also
  grown_one node (branch ∷ branches) one other is also =
      is.2 ∙ ap₂ (λ (one more : List Leaf). one ++ more) (next_one (next_of node branch) is.0 also.0 is.3 also.3)
      (grown_one node branches is.1 also.1 is.4 also.4) ∙ sym also.2

tree_one : (soil : Soil) (height over : ℕ) (node : Node) (one other : List Leaf) → TreeIn soil height node one
    → TreeIn soil over node other → one ≡ other
unfolding TreeIn
tree_one soil zero over node one other is also = absurd is
tree_one soil (suc height) zero node one other is also = absurd also
tree_one soil (suc height) (suc over) node one other is also =
    grown_one (TreeIn soil height) (TreeIn soil over) (tree_one soil height over)
    node is.0 one other is.2
    (subst (λ branches. Grown (TreeIn soil over) node branches other)
    (unique (plan_at soil node.at) node.known also.0 is.0 also.1 is.1) also.2)

pub leaves_are_one : LeavesAreOne
leaves_are_one soil node one other is also = tree_one soil is.0 also.0 node one other is.1 also.1
