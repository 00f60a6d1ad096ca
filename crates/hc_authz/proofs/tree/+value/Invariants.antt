use Rattle.std.proofs.Common.{◌≡◌, ◌||◌, drop, map}
use Rattle.hc_authz.specs.Values as definition
use Rattle.hc_authz.specs.Values.{some_denied, some_granted}
use Rattle.hc_authz.proofs.tree.+value.Given as goal

-- the trees that are left decide what is not known yet
abbrev pub invariant-votes_of-loop-tree : goal.invariant-votes_of-loop-tree
invariant-votes_of-loop-tree l =
    (some_granted (map (definition.value l.caller) l.tree-items)
    ≡ (l.votes.some_granted || some_granted (map (definition.value l.caller) (drop l.tree-index l.tree-items))))
    × (some_denied (map (definition.value l.caller) l.tree-items)
    ≡ (l.votes.some_denied || some_denied (map (definition.value l.caller) (drop l.tree-index l.tree-items))))
