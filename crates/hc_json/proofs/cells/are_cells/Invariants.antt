use Rattle.std.proofs.Common.{◌≡◌, drop}
use Rattle.serde_json.specs.View.{items_view}
use Rattle.hc_json.specs.Cells.{are_cells}
use Rattle.hc_json.proofs.cells.are_cells.Given as goal

-- the values that are left decide
abbrev pub invariant-loop-value : goal.invariant-loop-value
invariant-loop-value l = are_cells (items_view (drop l.value-index l.values)) ≡ are_cells (items_view l.values)
