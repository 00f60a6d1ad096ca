use Rattle.std.proofs.Common.{◌≡◌, [], drop, map}
use Rattle.hc_json.specs.CommandView.{cell_view}
use Rattle.hc_stated.specs.CellViews.{cells_view}
use Rattle.hc_stated.specs.Cells.{cells_behind}
use Rattle.hc_stated.proofs.cells.cells_in.Given as goal

-- the cells that were read, with those of the forms that are left, are all
abbrev pub invariant-loop-form : goal.invariant-loop-form
invariant-loop-form l = cells_behind (cells_view l.cells.items) (map cell_view (drop l.form-index l.forms))
    ≡ cells_behind [] (map cell_view l.forms)
