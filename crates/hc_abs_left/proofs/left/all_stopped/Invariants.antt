use Rattle.hc_abs_left.proofs.Common.{◌≡◌, ◌++◌, map}
use Rattle.std.specs.Vec.Iter.{into_iter_items}
use Rattle.hc_abs_left.specs.Left.{stopped_so}
use Rattle.hc_abs_left.proofs.left.all_stopped.Given as goal

-- the branches of those before, and those of what is left
abbrev pub invariant-loop-one : goal.invariant-loop-one
invariant-loop-one l =
    l.found.items ++ map (stopped_so l.settings l.decisions) (into_iter_items l.one-iterator)
    ≡ map (stopped_so l.settings l.decisions) l.fn.restarted.items
