use Rattle.std.proofs.Common.{◌≡◌, map, drop}
use Rattle.hc_table.specs.Table.{find_in, row_of}
use Rattle.hc_table.proofs.table.find_in.Given as goal

abbrev pub invariant-loop-row : goal.invariant-loop-row
invariant-loop-row g l = find_in (map row_of (drop l.row-index l.rows)) l.name ≡ find_in (map row_of l.fn.rows) l.name
