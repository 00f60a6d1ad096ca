use Rattle.hc_cells.proofs.Common.{◌≡◌, ◌+◌, length, states_in, take}
use Rattle.hc_cells.proofs.cell.Cell.room_left.Given as goal

-- what the sets before this one take and what is left are the whole room
abbrev pub invariant-sets : goal.invariant-sets
invariant-sets l = states_in (take (length l.yielded) l.self) + l.left ≡ l.room
