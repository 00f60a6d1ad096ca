use Rattle.hc_world.proofs.Common.{take}
use Rattle.hc_world.specs.Drops.{HasRows, paths_of}
use Rattle.hc_world.specs.Rows.{KeepsRows, SameRows}
use Rattle.hc_world.proofs.drop.make_all_rows.Given as goal

abbrev pub invariant-loop-path : goal.invariant-loop-path
invariant-loop-path l =
    SameRows l.initial.rows l.rows
    × KeepsRows l.initial.rows l.rows
    × HasRows l.rows (paths_of (take l.path-index l.paths))
