use Rattle.hc_world.proofs.Common.{◌≡◌, ◌++◌, length, keys, filter_map, keys_from, name_behind}
use Rattle.hc_world.proofs.names.names_below.Given as goal

-- the names so far, and those of the paths at the place or behind it
abbrev pub invariant-loop-path : goal.invariant-loop-path
invariant-loop-path l =
    l.names ++ filter_map (name_behind l.front.items) (keys_from l.place.items l.nodes)
    ≡ filter_map (name_behind l.front.items) (keys l.nodes)

abbrev pub decreases-loop-path : goal.decreases-loop-path
decreases-loop-path l = length (keys_from l.place.items l.nodes)
