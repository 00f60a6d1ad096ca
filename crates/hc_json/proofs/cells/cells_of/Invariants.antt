use Rattle.std.proofs.Common.{◌≡◌, ◌++◌, drop, map}
use Rattle.serde_json.specs.View.{items_view}
use Rattle.hc_json.specs.Cells.{cells_of}
use Rattle.hc_json.specs.CommandView.{cell_view}
use Rattle.hc_json.proofs.cells.cells_of.Given as goal

-- the cells that were read, and those of the values that are left, are all
abbrev pub invariant-loop-value : goal.invariant-loop-value
invariant-loop-value l =
    map cell_view l.cells.items ++ cells_of (items_view (drop l.value-index l.values)) ≡ cells_of (items_view l.values)
