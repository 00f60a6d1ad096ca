use Rattle.std.proofs.Common.{drop, map}
use Rattle.hc_abs_authz.specs.Asking.{says}
use Rattle.hc_abs_pass.specs.Authorizing.{asked_of}
use Rattle.hc_abs_authz.proofs.Sequences.{VotesSoFar}
use Rattle.hc_abs_authz.proofs.trees.+values.Given as goal

abbrev pub invariant-votes_of-loop-tree : goal.invariant-votes_of-loop-tree
invariant-votes_of-loop-tree l =
    VotesSoFar (says l.asking) (map (asked_of l.asking.request.now) l.tree-items)
    (map (asked_of l.asking.request.now) (drop l.tree-index l.tree-items)) l.votes
