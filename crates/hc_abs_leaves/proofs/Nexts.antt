-- What code makes of a branch fits what follows it in the tree.
use Rattle.hc_abs_leaves.proofs.Common.{◌≡◌, ◌∙◌, ℕ, ◌+◌, nat_le, List, ◌++◌, Bool, true, false, if◌then◌else◌}
use Rattle.hc_abs_leaves.proofs.Common.{refl, sym, ap, ap₂, subst, Branch, Ground, Segment, Node, next_of}
use Rattle.hc_model.specs.declared.event.Decision.{Decision}
use Rattle.hc_model.specs.declared.outcome.LimitKind.TheVariants.{Rounds}
use Rattle.hc_model.specs.declared.rewrite.Rule.{Rule}
use Rattle.hc_plan.specs.Branches.{no_text}
use Rattle.hc_plan.specs.Texts.{all_three}
use Rattle.hc_abs_left.specs.Segments.{FinishFits, RestsAt}
use Rattle.hc_abs_left.specs.declared.segment.Finish.{Finish as FinishIn}
use Rattle.hc_abs_left.specs.declared.segment.Finish.TheVariants as finish
use Rattle.hc_abs_left.specs.declared.segment.Segment.{Segment as SegmentIn}
use Rattle.hc_abs_pass.specs.Ends.{left_of, limit}
use Rattle.hc_abs_pass.specs.Listing.{so_far_of}
use Rattle.hc_abs_pass.specs.Passing.{Finish, dir_round, ruled, server_round, stopped}
use Rattle.hc_abs_pass.specs.declared.ends.Left.{Left as LeftIn}
use Rattle.hc_abs_pass.specs.declared.ends.Left.TheVariants as left
use Rattle.hc_abs_restart.specs.Restarted.{PutDown}
use Rattle.hc_abs_rw.specs.Applied as applied
use Rattle.hc_abs_tree.specs.Trees as trees
use Rattle.hc_abs_tree.specs.Trees.{At, directory, directory_at, number_of, server, server_at}
use Rattle.hc_abs_leaves.specs.Fitting.{AtFits, EndFits, NodeFits, PendingFits}
use Rattle.hc_abs_leaves.specs.Following.{SegmentAt, directory_in, leaf_in, limited_in, next_by, next_in, node_in}
use Rattle.hc_abs_leaves.specs.Following.{on_from, reached_in, server_in, stopped_in, unless_bound}
use Rattle.hc_abs_leaves.specs.declared.following.Parent.{Parent}
use Rattle.hc_abs_leaves.specs.declared.leaf.LeafEnd.{LeafEnd}
use Rattle.hc_abs_leaves.specs.declared.leaf.LeafEnd.TheVariants as end
use Rattle.hc_abs_leaves.specs.declared.node.At.{At as AtIn}
use Rattle.hc_abs_leaves.specs.declared.node.At.TheVariants as place
use Rattle.hc_abs_leaves.specs.declared.node.Node.{Node as NodeIn}
use Rattle.hc_abs_leaves.specs.declared.node.Pending.{Pending}

-- The node that branches come from.
pub record IsParent (parent : Parent) (node : Node) : Type 0 where
  pub number : number_of node.at ≡ parent.number
  pub server : server_at node.at ≡ parent.server
  pub directory : directory_at node.at ≡ parent.directory
  pub decided : node.decided ≡ parent.decided.now

module _ (ground : Ground) (parent : Parent) (segment : SegmentIn) (node : Node) (branch : Branch Segment)
    (is : IsParent parent node) (fits : SegmentAt ground segment branch) where
  -- What was decided in all passes.
  all_decided : node.decided ++ (branch.1).decisions ≡ parent.decided.now ++ segment.decisions
  all_decided = ap₂ (λ decided decisions. decided ++ decisions) is.decided fits.0.decided

  leaf_fits : (own : LeafEnd) (finish : Finish) → EndFits ground.tests.now own finish
      → PendingFits ground (leaf_in parent (reached_in segment) own)
      (trees.ends (trees.leaf_of node branch.0 branch.1 finish))
  leaf_fits own finish same =
      record { at = fits.0.at; decisions = all_decided; require = fits.0.require; finish = same }

  node_fits : (number : ℕ) (own : AtIn) (at : At) (decided decisions : List Decision) → AtFits number own at
      → (branch.0).texts ≡ all_three no_text → decisions ≡ decided
      → PendingFits ground (node_in number own segment.tied decided)
      (trees.goes (record { at = at; known = branch.0; decided = decisions }))
  node_fits number own at decided decisions place texts same = record {
    at = place;
    rests = record {
      cell = fits.0.at.cell;
      ties = fits.0.at.ties;
      given = fits.0.at.given;
      texts = texts;
      printed = fits.0.at.printed;
    };
    clients = fits.1;
    decided = same;
  }

  stopped_fits : (own : LeftIn) → PutDown (left_of own) branch.0
      → PendingFits ground (stopped_in parent (reached_in segment) own)
      (trees.unless_next node branch.0 branch.1 (left_of own))
  stopped_fits left.NextPass texts =
      node_fits (parent.number + 1) place.Pass (trees.pass (number_of node.at + 1)) _ _
      (ap (λ number. trees.pass (number + 1)) is.number) texts all_decided
  stopped_fits own texts = leaf_fits (end.Stopped own) (stopped (left_of own)) refl

  -- By whether the bound of rounds is reached.
  bound_fits : (rule : Rule) (round : ℕ) (own : AtIn) (at : At) → AtFits parent.number own at
      → (branch.0).texts ≡ all_three no_text
      → PendingFits ground (unless_bound parent (reached_in segment) rule.flags.rounds round own)
      (trees.unless_bound node branch.0 branch.1 rule round at)
  bound_fits rule round own at place texts = by (nat_le rule.flags.rounds round)
    where
      by : (over : Bool)
          → PendingFits ground (if over then limited_in parent (reached_in segment)
          else node_in parent.number own segment.tied parent.decided.now) (elim over [
            | true ↦ trees.ends (trees.leaf_of node branch.0 branch.1 (stopped (limit Rounds)))
            | false ↦ trees.goes (record { at = at; known = branch.0; decided = node.decided })
          ])
      by true = leaf_fits (end.Stopped (left.Limit Rounds)) (stopped (limit Rounds)) refl
      by false = node_fits parent.number own at parent.decided.now node.decided place texts is.decided

  led : (own : Pending) (finish meant : Finish) → finish ≡ meant
      → (RestsAt meant branch.0 → PendingFits ground own (trees.next_by node branch.0 branch.1 meant))
      → RestsAt finish branch.0 → PendingFits ground own (trees.next_by node branch.0 branch.1 finish)
  led own finish meant same leads rests =
      subst (λ finish. PendingFits ground own (trees.next_by node branch.0 branch.1 finish)) (sym same)
      (leads (subst (λ finish. RestsAt finish branch.0) same rests))

  by_finish : (own : FinishIn) (meant : Finish) → FinishFits ground.tests.now own meant → RestsAt meant branch.0
      → PendingFits ground (next_by parent (reached_in segment) own) (trees.next_by node branch.0 branch.1 meant)
  by_finish (finish.Stopped left) meant same =
      led (stopped_in parent (reached_in segment) left) meant (stopped (left_of left)) same (stopped_fits left)
  by_finish (finish.Ruled next) meant same =
      let answer = ruled (applied.next_of ground.tests.now next) in
      led (leaf_in parent (reached_in segment) (end.Ruled next)) meant answer same
      (λ texts. leaf_fits (end.Ruled next) answer refl)
  by_finish (finish.ServerRound rule left) meant same =
      let own = place.Server (parent.server + 1) (on_from segment.decisions left) in
      let pending = unless_bound parent (reached_in segment) rule.flags.rounds parent.server own in
      let so_far = trees.on_from branch.1 (so_far_of left) in
      led pending meant (server_round rule (so_far_of left)) same (λ texts.
      subst (λ round. PendingFits ground pending (trees.unless_bound node branch.0 branch.1 rule round
      (server (number_of node.at) (round + 1) so_far))) (sym is.server)
      (bound_fits rule parent.server own (server (number_of node.at) (parent.server + 1) so_far) (λ i.
      server (is.number i) (parent.server + 1)
      (record (so_far_of left) { decisions = fits.0.decided i })) texts))
  by_finish (finish.DirRound settings rule left) meant same =
      let own = place.Directory (parent.directory + 1) settings (on_from segment.decisions left) in
      let pending = unless_bound parent (reached_in segment) rule.flags.rounds parent.directory own in
      let so_far = trees.on_from branch.1 (so_far_of left) in
      led pending meant (dir_round same.0 rule (so_far_of left)) same.2 (λ texts.
      subst (λ round. PendingFits ground pending (trees.unless_bound node branch.0 branch.1 rule round
      (directory (number_of node.at) (round + 1) same.0 so_far))) (sym is.directory)
      (bound_fits rule parent.directory own (directory (number_of node.at) (parent.directory + 1) same.0 so_far) (
        same.0,
        same.1,
        λ i. directory (is.number i) (parent.directory + 1) same.0
            (record (so_far_of left) { decisions = fits.0.decided i }),
      ) texts))

  pub next_fits : PendingFits ground (next_in parent segment) (next_of node branch)
  next_fits = by_finish segment.finish (branch.1).finish fits.0.finish fits.0.texts

rounds_fit : (number : ℕ) (own : AtIn) (at : At) → AtFits number own at
    → (number_of at ≡ number) × (server_at at ≡ server_in own) × (directory_at at ≡ directory_in own)
rounds_fit number place.Pass at same = (ap number_of same, ap server_at same, ap directory_at same)
rounds_fit number (place.Server round so_far) at same = (ap number_of same, ap server_at same, ap directory_at same)
rounds_fit number (place.Directory round settings so_far) at fits =
    (ap number_of fits.2, ap server_at fits.2, ap directory_at fits.2)

pub parent_fits : (ground : Ground) (own : NodeIn) (node : Node) (parent : Parent) → NodeFits ground own node
    → parent.number ≡ own.number → parent.server ≡ server_in own.at → parent.directory ≡ directory_in own.at
    → parent.decided.now ≡ own.decided → IsParent parent node
parent_fits ground own node parent fits number outer inner decided =
    let rounds = rounds_fit own.number own.at node.at fits.at in record {
      number = rounds.0 ∙ sym number;
      server = rounds.1 ∙ sym outer;
      directory = rounds.2 ∙ sym inner;
      decided = fits.decided ∙ sym decided;
    }
