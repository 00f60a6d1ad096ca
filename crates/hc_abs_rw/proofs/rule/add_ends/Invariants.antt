use Rattle.hc_abs_rw.proofs.Common.{◌≡◌, ◌++◌}
use Rattle.std.specs.Vec.Iter.{into_iter_items}
use Rattle.hc_abs_rw.specs.RuleBranches.{matched}
use Rattle.hc_abs_rw.proofs.rule.add_ends.Given as goal

-- what was found, and what is left
abbrev pub invariant-loop-end : goal.invariant-loop-end
invariant-loop-end l =
    l.found.items ++ matched l.so_far l.rule (into_iter_items l.end-iterator)
    ≡ l.fn.found.items ++ matched l.so_far l.rule l.fn.ends.items
