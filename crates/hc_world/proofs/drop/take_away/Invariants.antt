use Rattle.hc_world.proofs.Common.{◌≡◌, drop}
use Rattle.hc_world.specs.Drops.{paths_of, without, without_marked}
use Rattle.hc_world.proofs.drop.take_away.Given as goal

abbrev pub invariant-loop-path : goal.invariant-loop-path
invariant-loop-path l =
    (without l.files.nodes (paths_of (drop l.path-index l.paths)) ≡ without l.initial.files.nodes (paths_of l.paths))
    × (without_marked l.files.nodes l.files.rows l.number (paths_of (drop l.path-index l.paths))
    ≡ without_marked l.initial.files.nodes l.initial.files.rows l.number (paths_of l.paths))
