use Rattle.std.proofs.Common.{subst, sym}
use Rattle.hc_abs_authz.specs.Asking.{MembersSay, TreeSays}
use Rattle.hc_abs_authz.specs.Leaves.{AreValues, AreVotes}
use Rattle.hc_abs_authz.proofs.TreeSets.{all_values, any_values, next_vote, none_values, past_votes}
use Rattle.hc_abs_authz.proofs.trees.+values.Goals as goal

pub tree_values-returns-in_ok-votes-in-All : goal.tree_values-returns-in_ok-votes-in-All
tree_values-returns-in_ok-votes-in-All t c =
    subst (λ tree. AreValues (TreeSays c.args.asking tree) c.by.result) (sym c.in-All.is)
    (all_values c.args.asking c.in-All.trees c.in_ok-votes-in-All.votes c.in_ok-votes-in-All.ensures c.by.result
    c.by.ensures)

pub tree_values-returns-in_ok-votes-in-AnyOf : goal.tree_values-returns-in_ok-votes-in-AnyOf
tree_values-returns-in_ok-votes-in-AnyOf t c =
    subst (λ tree. AreValues (TreeSays c.args.asking tree) c.by-in-AnyOf.result) (sym c.in-AnyOf.is)
    (any_values c.args.asking c.in-AnyOf.trees c.in_ok-votes-in-AnyOf.votes c.in_ok-votes-in-AnyOf.ensures
    c.by-in-AnyOf.result c.by-in-AnyOf.ensures)

pub tree_values-returns-in_ok-votes-in-NoneOf : goal.tree_values-returns-in_ok-votes-in-NoneOf
tree_values-returns-in_ok-votes-in-NoneOf t c =
    subst (λ tree. AreValues (TreeSays c.args.asking tree) c.by-in-NoneOf.result) (sym c.in-NoneOf.is)
    (none_values c.args.asking c.in-NoneOf.trees c.in_ok-votes-in-NoneOf.votes c.in_ok-votes-in-NoneOf.ensures
    c.by-in-NoneOf.result c.by-in-NoneOf.ensures)

pub votes_of-loop-tree-preserved : goal.votes_of-loop-tree-preserved
votes_of-loop-tree-preserved t c =
    next_vote c.args.asking c.as_slice-tree-items.result.now c.loop-tree.tree-index c.tree-item.result
    c.loop-tree.votes c.with-votes.result c.in_ok-values.values c.loop-tree-test.true c.loop-tree.invariant
    (subst (λ tree. AreValues (TreeSays c.args.asking tree) c.in_ok-values.values) c.tree-item.is
    c.in_ok-values.ensures)
    c.with-votes.ensures

pub votes_of-returns : goal.votes_of-returns
votes_of-returns t c =
    subst (λ trees. AreVotes (MembersSay c.args.asking trees) c.loop-tree.votes) c.as_slice-tree-items.ensures
    (past_votes c.args.asking c.as_slice-tree-items.result.now c.loop-tree.tree-index c.loop-tree.votes
    c.loop-tree-test.false c.loop-tree.invariant)
