-- The leaves behind a stack in which a node stands, from those behind the stack that its branches make of it.
use Rattle.hc_abs_leaves.proofs.Common.{ℕ, zero, suc, ◌+◌, List, [], ◌∷◌, ◌++◌, refl, sym, subst, inl, inr, arith}
use Rattle.hc_abs_leaves.proofs.Common.{Branch, Branches, Ground, Segment, Leaf, Next, Node, Soil, ends, goes, next_of}
use Rattle.hc_abs_leaves.proofs.Common.{plan_at}
use Rattle.hc_abs_leaves.proofs.Stacks.{both_behind, grown_behind, parts_behind}
use Rattle.hc_abs_leaves.specs.Fitting.{soil_in}
use Rattle.hc_abs_leaves.specs.Growing.{AllBehind, TakesOver}
use Rattle.hc_abs_leaves.specs.Nodes.{Splits}
use Rattle.hc_abs_tree.specs.Trees.{AreLeaves, Behind, Grown}
unfoldable use Rattle.hc_abs_leaves.specs.Some.{SomeIn}
unfoldable use Rattle.hc_abs_tree.specs.Trees.{TreeIn}
use Rattle.hc_abs_leaves.specs.Some.{AreSome}

module _ (One Other : Node → List Leaf → Type 0)
    (leads : (node : Node) (leaves : List Leaf) → One node leaves → Other node leaves) where
  behind_leads : (next : Next) (leaves : List Leaf) → Behind One next leaves → Behind Other next leaves
  behind_leads (ends leaf) leaves is = is
  behind_leads (goes node) leaves is = leads node leaves is

  grown_leads : (node : Node) (branches : List (Branch Segment)) (leaves : List Leaf) → Grown One node branches leaves
      → Grown Other node branches leaves
  grown_leads node [] leaves is = is
  grown_leads node (branch ∷ branches) leaves is = (
    is.0,
    is.1,
    is.2,
    behind_leads (next_of node branch) is.0 is.3,
    grown_leads node branches is.1 is.4,
  )

-- Leaves in a tree of some height: those of a lower one, and those behind the branches of a node.
module _ (soil : Soil) (In : ℕ → Node → List Leaf → Type 0)
    (higher : (height : ℕ) (node : Node) (leaves : List Leaf) → In height node leaves → In (suc height) node leaves)
    (closes : (height : ℕ) (node : Node) (branches : List (Branch Segment)) (leaves : List Leaf)
    → Branches (plan_at soil node.at) node.known branches → Grown (In height) node branches leaves
    → In (suc height) node leaves) where
  abbrev Are : Node → List Leaf → Type 0
  Are node leaves = (height : ℕ) × In height node leaves

  raised : (more height : ℕ) (node : Node) (leaves : List Leaf) → In height node leaves → In (height + more) node leaves
  raised zero height node leaves is = subst (λ height. In height node leaves) (omega arith) is
  raised (suc more) height node leaves is =
      subst (λ height. In height node leaves) (omega arith)
      (higher (height + more) node leaves (raised more height node leaves is))

  behind_at : (next : Next) (leaves : List Leaf) → Behind Are next leaves
      → (height : ℕ) × Behind (In height) next leaves
  behind_at (ends leaf) leaves is = (zero, is)
  behind_at (goes node) leaves is = is

  grown_at : (node : Node) (branches : List (Branch Segment)) (leaves : List Leaf) → Grown Are node branches leaves
      → (height : ℕ) × Grown (In height) node branches leaves
  grown_at node [] leaves is = (zero, is)
  grown_at node (branch ∷ branches) leaves is =
      let one = behind_at (next_of node branch) is.0 is.3 in
      let rest = grown_at node branches is.1 is.4 in (
        one.0 + rest.0,
        (
          is.0,
          is.1,
          is.2,
          behind_leads (In one.0) (In (one.0 + rest.0)) (raised rest.0 one.0) (next_of node branch) is.0 one.1,
          grown_leads (In rest.0) (In (one.0 + rest.0)) (λ node leaves is.
              subst (λ height. In height node leaves) (omega arith) (raised one.0 rest.0 node leaves is)) node branches
              is.1 rest.1,
        ),
      )

  -- The branches of a node in its place.
  taken : (nexts more : List Next) (node : Node) (leaves : List Leaf) → Splits soil node more
      → AllBehind Are (nexts ++ more) leaves → AllBehind Are (nexts ++ goes node ∷ []) leaves
  taken nexts more node leaves splits all =
      let parts = parts_behind Are nexts more leaves all in
      let grown = grown_at node splits.0 parts.0
      (grown_behind Are node splits.0 parts.0 (subst (λ more. AllBehind Are more parts.0) splits.2 parts.3)) in
      subst (AllBehind Are (nexts ++ goes node ∷ [])) (sym parts.2)
      (both_behind Are nexts (goes node ∷ []) parts.0 parts.1 (
        parts.0,
        [],
        refl,
        (suc grown.0, closes grown.0 node splits.0 parts.0 splits.1 grown.1),
        refl,
      ) parts.4)

-- ---- all leaves, and some of them

module _ (soil : Soil) where
  tree_higher : (height : ℕ) (node : Node) (leaves : List Leaf) → TreeIn soil height node leaves
      → TreeIn soil (suc height) node leaves
  unfolding TreeIn
  tree_higher zero node leaves is = absurd is
  tree_higher (suc height) node leaves is = (
    is.0,
    is.1,
    grown_leads (TreeIn soil height) (TreeIn soil (suc height)) (tree_higher height) node is.0 leaves is.2,
  )

  some_higher : (height : ℕ) (node : Node) (leaves : List Leaf) → SomeIn soil height node leaves
      → SomeIn soil (suc height) node leaves
  unfolding SomeIn
  some_higher zero node leaves none = inl none
  some_higher (suc height) node leaves (inl none) = inl none
  some_higher (suc height) node leaves (inr is) = inr (
    is.0,
    is.1,
    grown_leads (SomeIn soil height) (SomeIn soil (suc height)) (some_higher height) node is.0 leaves is.2,
  )

-- ---- stacks that take over

module _ (levels : ℕ) (ground : Ground) where
  pub then_over : (before between after : List Next) (found : List Leaf) → TakesOver levels ground before between []
      → TakesOver levels ground between after found → TakesOver levels ground before after found
  then_over before between after found first rest = (
    (λ more all. first.0 (found ++ more) (rest.0 more all)),
    (λ more all. first.1 (found ++ more) (rest.1 more all)),
  )

  -- A node gives way to its branches.
  pub node_over : (nexts more : List Next) (node : Node) → Splits (soil_in levels ground) node more
      → TakesOver levels ground (nexts ++ goes node ∷ []) (nexts ++ more) []
  unfolding SomeIn TreeIn
  node_over nexts more node splits =
      let soil = soil_in levels ground in (
        (λ leaves. taken soil (TreeIn soil) (tree_higher soil) (λ height node branches leaves are grown.
            (branches, are, grown)) nexts more node leaves splits),
        (λ leaves. taken soil (SomeIn soil) (some_higher soil) (λ height node branches leaves are grown.
            inr (branches, are, grown)) nexts more node leaves splits),
      )

  -- A leaf is the next one.
  pub leaf_over : (nexts : List Next) (leaf : Leaf)
      → TakesOver levels ground (nexts ++ ends leaf ∷ []) nexts (leaf ∷ [])
  leaf_over nexts leaf =
      let soil = soil_in levels ground in (
        (λ more all. both_behind (AreLeaves soil) nexts (ends leaf ∷ []) (leaf ∷ []) more
            (leaf ∷ [], [], refl, refl, refl) all),
        (λ more all. both_behind (AreSome soil) nexts (ends leaf ∷ []) (leaf ∷ []) more
            (leaf ∷ [], [], refl, refl, refl) all),
      )
