use Rattle.std.proofs.Common.{◌≡◌, drop, take}
use Rattle.hc_stated.specs.CellViews.{cells_view}
use Rattle.hc_stated.specs.Cells.{AreCells, bad_in_cells}
use Rattle.hc_stated.proofs.named.state_cells.Given as goal

-- the cells that are left decide, and those before were made
abbrev pub invariant-loop-cell : goal.invariant-loop-cell
invariant-loop-cell l = record {
  is_read : bad_in_cells (cells_view (drop l.cell-index l.cells)) ≡ bad_in_cells (cells_view l.cells);
  made : AreCells (cells_view (take l.cell-index l.cells)) l.named.items;
}
