use Rattle.hc_abs_pass.proofs.Common.{◌≡◌, ◌++◌, map}
use Rattle.std.specs.Vec.Iter.{into_iter_items}
use Rattle.hc_abs_pass.specs.Listing.{ended_at}
use Rattle.hc_abs_pass.proofs.list.ended.Given as goal

-- the ends of those before, and of those that are left
abbrev pub invariant-loop-one : goal.invariant-loop-one
invariant-loop-one l =
    l.found.items ++ map ended_at (into_iter_items l.one-iterator) ≡ map ended_at l.fn.placed.items
