use Rattle.std.proofs.Common.{◌≡◌, ◌++◌, map}
use Rattle.std.specs.Vec.Iter.{into_iter_items}
use Rattle.hc_abs_view.specs.Placing.{viewed_at}
use Rattle.hc_abs_view.proofs.placed.ended.Given as goal

-- the ends of those before, and of those that are left
abbrev pub invariant-loop-one : goal.invariant-loop-one
invariant-loop-one l =
    l.found.items ++ map viewed_at (into_iter_items l.one-iterator) ≡ map viewed_at l.fn.placed.items
