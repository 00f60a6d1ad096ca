use Rattle.std.proofs.Common.{◌≡◌, ◌+◌, take}
use Rattle.hc_abs_rw.specs.RuleBranches.{states_of}
use Rattle.hc_abs_rw.proofs.room.fit.Given as goal

-- what was found so far and what is left fill the room
abbrev pub invariant-loop-one : goal.invariant-loop-one
invariant-loop-one g l = states_of g.C.Celled.cell (take l.one-index l.found) + l.left ≡ l.room
