-- Leaves of a tree of which some may be left out: as many as it has at least.
use Rattle.std.specs.Prelude.{◌≡◌, ◌≤◌, ◌⊎◌, ℕ, zero, suc, List, [], length}
use Rattle.hc_plan.specs.Branches.{Branch, Branches}
use Rattle.hc_abs_pass.specs.Passing.{Segment}
use Rattle.hc_abs_tree.specs.Trees.{AreLeaves, Grown, Leaf, Node, Soil, plan_at}

-- Nothing need be told of what is behind a node; the leaves that are told stand in their order.
unfoldable pub SomeIn : Soil → ℕ → Node → List Leaf → Type 0
SomeIn soil zero node leaves = leaves ≡ []
SomeIn soil (suc height) node leaves = (leaves ≡ [])
    ⊎ ((branches : List (Branch Segment)) × Branches (plan_at soil node.at) node.known branches
    × Grown (SomeIn soil height) node branches leaves)

abbrev pub AreSome : Soil → Node → List Leaf → Type 0
AreSome soil node leaves = (height : ℕ) × SomeIn soil height node leaves

abbrev pub SomeAreNoMore : Type 0
SomeAreNoMore = (soil : Soil) (node : Node) (some all : List Leaf) → AreSome soil node some → AreLeaves soil node all
    → length some ≤ length all
