-- The next leaf of what is still to come.
use Rattle.hc_abs_leaves.proofs.Common.{◌≡◌, ◌∙◌, ℕ, List, [], ◌∷◌, ◌++◌, map, reverse, refl, sym, ap, subst}
use Rattle.hc_abs_leaves.proofs.Common.{AllFit, IsListed, Ground, Leaf, Next, Node, ends, goes, next_of, plan_at}
use Rattle.hc_abs_leaves.proofs.Common.{shown_in}
use Rattle.hc_plan.proofs.Coded.{both_fit}
use Rattle.hc_abs_left.specs.Segments.{SegmentFits}
use Rattle.hc_abs_left.specs.declared.segment.Segment.{Segment as SegmentIn}
use Rattle.hc_abs_run.proofs.Common.{with_clients}
use Rattle.hc_abs_leaves.proofs.Heights.{leaf_over, node_over, then_over}
use Rattle.hc_abs_leaves.proofs.Nexts.{next_fits, parent_fits}
use Rattle.hc_abs_leaves.proofs.Stacks.{last_fits, map_fits, reverse_fits}
use Rattle.hc_abs_leaves.specs.Fitting.{LeafFits, NodeFits, PendingFits, soil_in}
use Rattle.hc_abs_leaves.specs.Following.{SegmentAt, directory_in, next_in, server_in}
use Rattle.hc_abs_leaves.specs.Growing.{TakesOver}
use Rattle.hc_abs_leaves.specs.Nodes.{AreAt, Grows}
use Rattle.hc_abs_leaves.specs.declared.following.Parent.{Parent}
use Rattle.hc_abs_leaves.specs.declared.leaf.Leaf.{Leaf as LeafIn}
use Rattle.hc_abs_leaves.specs.declared.node.Node.{Node as NodeIn}
use Rattle.hc_abs_leaves.specs.declared.node.Pending.{Pending}
use Rattle.hc_abs_leaves.specs.declared.node.Pending.TheVariants as pending

module _ (ground : Ground) where
  -- ---- what comes in the place of a node

  pub node_grows : (own : NodeIn) (parent : Parent) (found : List SegmentIn) (before after : List Pending)
      → parent.number ≡ own.number → parent.server ≡ server_in own.at → parent.directory ≡ directory_in own.at
      → parent.decided.now ≡ own.decided → AreAt ground own.number own.at own.tied found
      → after ≡ before ++ reverse (map (next_in parent) found) → Grows ground own before after
  node_grows own parent found before after number outer inner decided are all levels node nexts listed fits held =
      let plan = plan_at (soil_in levels ground) node.at in
      let is = parent_fits ground own node parent fits number outer inner decided in
      let branches = with_clients (SegmentFits ground.client ground.tests.now) (SegmentAt ground) plan node.known found
      (are levels node.at node.known listed fits.at fits.rests fits.clients)
      (λ segment branch fit same. (fit, same ∙ fits.clients)) in (
        reverse (map (next_of node) branches.0),
        subst (λ after. AllFit (PendingFits ground) after (nexts ++ reverse (map (next_of node) branches.0))) (sym all)
            (both_fit (PendingFits ground) before (reverse (map (next_in parent) found)) nexts
            (reverse (map (next_of node) branches.0)) held
            (reverse_fits (PendingFits ground) (map (next_in parent) found) (map (next_of node) branches.0)
            (map_fits (SegmentAt ground) (PendingFits ground) (next_in parent) (next_of node) (λ segment branch fit.
            next_fits ground parent segment node branch is fit) found branches.0 branches.2))),
        (branches.0, branches.1, refl),
      )

  -- ---- the next leaf

  -- From one moment to another, with no leaf between.
  abbrev pub Comes : List Pending → List Pending → Type 0
  Comes old now = (levels : ℕ) (before : List Next) → IsListed levels (shown_in ground)
      → AllFit (PendingFits ground) old before
      → (after : List Next) × AllFit (PendingFits ground) now after × TakesOver levels ground before after []

  goes_on : (own : NodeIn) (next : Next) → PendingFits ground (pending.Goes own) next
      → (node : Node) × (next ≡ goes node) × NodeFits ground own node
  goes_on own (goes node) fits = (node, refl, fits)
  goes_on own (ends leaf) fits = absurd fits

  is_over : (own : LeafIn) (next : Next) → PendingFits ground (pending.Ends own) next
      → (leaf : Leaf) × (next ≡ ends leaf) × LeafFits ground.client ground.tests.now own leaf
  is_over own (goes node) fits = absurd fits
  is_over own (ends leaf) fits = (leaf, refl, fits)

  module _ (old now : List Pending) (comes : Comes old now) where
    pub none_left : (rest : List Pending) → now ≡ [] → rest ≡ [] → (levels : ℕ) (before : List Next)
        → IsListed levels (shown_in ground) → AllFit (PendingFits ground) old before
        → (rest ≡ []) × TakesOver levels ground before [] []
    none_left rest is none levels before listed held =
        let first = comes levels before listed held in (
          none,
          subst (λ after. TakesOver levels ground before after [])
              (subst (λ now. AllFit (PendingFits ground) now first.0) is first.1) first.2,
        )

    module _ (rest : List Pending) (one : Pending) (all : now ≡ rest ++ one ∷ []) where
      pub comes_grown : (own : NodeIn) (after : List Pending) → one ≡ pending.Goes own → Grows ground own rest after
          → Comes old after
      comes_grown own after is grows levels before listed held =
          let first = comes levels before listed held in
          let last = last_fits (PendingFits ground) rest one first.0
          (subst (λ now. AllFit (PendingFits ground) now first.0) all first.1) in
          let node = goes_on own last.1 (subst (λ one. PendingFits ground one last.1) is last.4) in
          let more = grows levels node.0 last.0 listed node.2 last.3 in (
            last.0 ++ more.0,
            more.1,
            then_over levels ground before first.0 (last.0 ++ more.0) [] first.2
                (subst (λ nexts. TakesOver levels ground nexts (last.0 ++ more.0) [])
                (sym (last.2 ∙ ap (λ next. last.0 ++ next ∷ []) node.1))
                (node_over levels ground last.0 more.0 node.0 more.2)),
          )

      pub leaf_found : (own : LeafIn) → one ≡ pending.Ends own → (levels : ℕ) (before : List Next)
          → IsListed levels (shown_in ground) → AllFit (PendingFits ground) old before
          → (leaf : Leaf) × (after : List Next) × LeafFits ground.client ground.tests.now own leaf
          × AllFit (PendingFits ground) rest after × TakesOver levels ground before after (leaf ∷ [])
      leaf_found own is levels before listed held =
          let first = comes levels before listed held in
          let last = last_fits (PendingFits ground) rest one first.0
          (subst (λ now. AllFit (PendingFits ground) now first.0) all first.1) in
          let leaf = is_over own last.1 (subst (λ one. PendingFits ground one last.1) is last.4) in (
            leaf.0,
            last.0,
            leaf.2,
            last.3,
            then_over levels ground before first.0 last.0 (leaf.0 ∷ []) first.2
                (subst (λ nexts. TakesOver levels ground nexts last.0 (leaf.0 ∷ []))
                (sym (last.2 ∙ ap (λ next. last.0 ++ next ∷ []) leaf.1)) (leaf_over levels ground last.0 leaf.0)),
          )
