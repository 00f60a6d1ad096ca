-- What is still to come of a tree, and its next leaf.
use Rattle.std.specs.Prelude.{◌≡◌, ℕ, List, [], ◌∷◌, ◌++◌, Option, None, Some}
use Rattle.hc_plan.specs.Coded.{AllFit}
use Rattle.hc_plan.specs.declared.storing.Tied.{Tied}
use Rattle.hc_abs_left.specs.Grounds.{HasClients, shown_in}
use Rattle.hc_abs_left.specs.declared.ground.Ground.{Ground}
use Rattle.hc_abs_pass.specs.Walks.{IsListed}
use Rattle.hc_abs_rw.specs.RuleBranches.{Rests}
use Rattle.hc_plan.specs.States.{AbsState}
use Rattle.hc_abs_tree.specs.Trees.{AreLeaves, Behind, Leaf, Next, Node, goes, pass}
use Rattle.hc_abs_leaves.specs.Fitting.{LeafFits, PendingFits, soil_in}
use Rattle.hc_abs_leaves.specs.Some.{AreSome}
use Rattle.hc_abs_leaves.specs.declared.leaf.Leaf.{Leaf as LeafIn}
use Rattle.hc_abs_leaves.specs.declared.tree.Tree.{Tree}

-- The leaves behind each of these, where those of the last come first.
abbrev pub AllBehind : (Node → List Leaf → Type 0) → List Next → List Leaf → Type 0
AllBehind Further [] leaves = leaves ≡ []
AllBehind Further (next ∷ nexts) leaves =
    (one : List Leaf) × (more : List Leaf) × (leaves ≡ more ++ one) × Behind Further next one
    × AllBehind Further nexts more

-- What is still to come, as the tree has it.
abbrev pub Holds : Ground → Tree → List Next → Type 0
Holds ground tree nexts = AllFit (PendingFits ground) tree.pending.items nexts

-- These nodes have all of the tree's leaves, and some of them at least.
abbrev pub TakesOver : ℕ → Ground → List Next → List Next → List Leaf → Type 0
TakesOver levels ground before after found =
    ((more : List Leaf) → AllBehind (AreLeaves (soil_in levels ground)) after more
    → AllBehind (AreLeaves (soil_in levels ground)) before (found ++ more))
    × ((more : List Leaf) → AllBehind (AreSome (soil_in levels ground)) after more
    → AllBehind (AreSome (soil_in levels ground)) before (found ++ more))

-- The next leaf, and what is still to come behind it; where there is none, nothing is.
abbrev pub Leads : ℕ → Ground → List Next → Tree → Option LeafIn → Type 0
Leads levels ground before tree None = (tree.pending.items ≡ []) × TakesOver levels ground before [] []
Leads levels ground before tree (Some own) =
    (leaf : Leaf) × (after : List Next) × LeafFits ground.client ground.tests.now own leaf × Holds ground tree after
    × TakesOver levels ground before after (leaf ∷ [])

abbrev pub Gives : Ground → Tree → Tree → Option LeafIn → Type 0
Gives ground old new found = (levels : ℕ) (before : List Next) → IsListed levels (shown_in ground)
    → Holds ground old before → Leads levels ground before new found

-- What is still to come is all behind the first pass.
abbrev pub BeginsAt : Tied → Tree → Type 0
BeginsAt tied tree = (ground : Ground) (known : AbsState) → Rests ground.client tied known → HasClients ground known
    → Holds ground tree (goes (record { at = pass 0; known = known; decided = [] }) ∷ [])
