-- Some of the leaves of a tree are no more than all.
use Rattle.hc_abs_leaves.proofs.Common.{◌≤◌, ℕ, zero, suc, List, [], ◌∷◌, length, ap, subst, inl, inr, arith}
use Rattle.hc_abs_leaves.proofs.Common.{length-append, Branch, Segment, Leaf, Next, Node, Soil, ends, goes, next_of}
use Rattle.hc_abs_leaves.proofs.Common.{plan_at}
use Rattle.hc_plan.proofs.Unique.{unique}
use Rattle.hc_abs_tree.specs.Trees.{Behind, Grown}
unfoldable use Rattle.hc_abs_tree.specs.Trees.{TreeIn}
use Rattle.hc_abs_leaves.specs.Some.{SomeAreNoMore}
unfoldable use Rattle.hc_abs_leaves.specs.Some.{SomeIn}

module _ (Some All : Node → List Leaf → Type 0)
    (fewer : (node : Node) (some all : List Leaf) → Some node some → All node all → length some ≤ length all) where
  next_fewer : (next : Next) (some all : List Leaf) → Behind Some next some → Behind All next all
      → length some ≤ length all
  next_fewer (ends leaf) some all is also = let one = ap length is in let other = ap length also in omega arith
  next_fewer (goes node) some all is also = fewer node some all is also

  grown_fewer : (node : Node) (branches : List (Branch Segment)) (some all : List Leaf) → Grown Some node branches some
      → Grown All node branches all → length some ≤ length all
  grown_fewer node [] some all is also = let one = ap length is in omega arith
  grown_fewer node (branch ∷ branches) some all is also =
      let first = next_fewer (next_of node branch) is.0 also.0 is.3 also.3 in
      let rest = grown_fewer node branches is.1 also.1 is.4 also.4 in
      omega (arith, ap length is.2, ap length also.2, length-append is.0 is.1, length-append also.0 also.1)

tree_fewer : (soil : Soil) (height over : ℕ) (node : Node) (some all : List Leaf) → SomeIn soil height node some
    → TreeIn soil over node all → length some ≤ length all
unfolding SomeIn TreeIn
tree_fewer soil zero over node some all is also = let none = ap length is in omega arith
tree_fewer soil (suc height) zero node some all is also = absurd also
tree_fewer soil (suc height) (suc over) node some all (inl is) also = let none = ap length is in omega arith
tree_fewer soil (suc height) (suc over) node some all (inr is) also =
    grown_fewer (SomeIn soil height) (TreeIn soil over) (tree_fewer soil height over) node is.0 some all is.2
    (subst (λ branches. Grown (TreeIn soil over) node branches all)
    (unique (plan_at soil node.at) node.known also.0 is.0 also.1 is.1) also.2)

pub some_are_no_more : SomeAreNoMore
some_are_no_more soil node some all is also = tree_fewer soil is.0 also.0 node some all is.1 also.1
