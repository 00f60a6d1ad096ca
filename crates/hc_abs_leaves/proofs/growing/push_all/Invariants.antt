use Rattle.std.specs.Prelude.{◌≡◌, ◌++◌, map, reverse}
use Rattle.std.proofs.Common.{vec_len}
use Rattle.hc_abs_leaves.specs.Following.{next_in}
use Rattle.hc_abs_leaves.proofs.growing.push_all.Given as goal

abbrev pub invariant-branches : goal.invariant-branches
invariant-branches l = l.pending.items ++ reverse (map (next_in l.parent) l.branches.items)
    ≡ l.initial.pending.items ++ reverse (map (next_in l.parent) l.fn.branches.items)

abbrev pub decreases-branches : goal.decreases-branches
decreases-branches l = vec_len l.branches
