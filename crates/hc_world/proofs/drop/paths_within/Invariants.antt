use Rattle.hc_world.proofs.Common.{◌≡◌, ◌∷◌, [], ◌++◌, false, length, is_before, keys_from}
use Rattle.hc_world.specs.Drops.{below, paths_of, paths_within}
use Rattle.hc_world.proofs.drop.paths_within.Given as goal

abbrev pub invariant-loop-below : goal.invariant-loop-below
invariant-loop-below l =
    (paths_of l.paths.items ++ below l.path (keys_from l.place.items l.nodes) ≡ paths_within l.nodes l.path)
    × (is_before l.place.items (l.path ++ 47 ∷ []) ≡ false)

abbrev pub decreases-loop-below : goal.decreases-loop-below
decreases-loop-below l = length (keys_from l.place.items l.nodes)
