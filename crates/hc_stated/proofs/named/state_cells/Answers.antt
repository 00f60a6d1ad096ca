use Rattle.std.proofs.Common.{◌≡◌, ◌∙◌, ◌+◌, List, [], ◌∷◌, ◌++◌, ap, drop, subst, sym, take}
use Rattle.std.specs.Option.{option_or}
use Rattle.hc_stated.specs.CellViews.{cell_view, cells_view}
use Rattle.hc_invariant.specs.declared.named.NamedCell.{NamedCell}
use Rattle.hc_stated.specs.Cells.{AreCells, CellSets, IsCell, bad_in_cells}
use Rattle.hc_stated.proofs.Putting.{left, taken, zip_more}
use Rattle.hc_stated.proofs.named.state_cells.Goals as goal

pub loop-cell-preserved : goal.loop-cell-preserved
loop-cell-preserved c =
    let cells = c.args.cells.now in
    let i = c.loop-cell.cell-index in
    let own = c.cell-item.result in
    let named = c.loop-cell.named.items in
    let made = c.in_ok-state_cell.field-0 in
    let is = c.in_ok-state_cell.ensures in
    let all = taken cell_view cells i own c.loop-cell-test.true c.cell-item.is in
    let pushed : c.push.new.self.items ≡ named ++ made ∷ [] = c.in_ok-push.ensures.items in
    record {
      is_read =
          sym (ap (λ bad. option_or bad (bad_in_cells (cells_view (drop (i + 1) cells)))) is.is_read)
          ∙ sym (ap bad_in_cells (left cell_view cells i own c.loop-cell-test.true c.cell-item.is))
          ∙ c.loop-cell.invariant.is_read;
      made =
          subst (λ (both : List CellSets × List NamedCell). AreCells both.0 both.1)
          (λ at. (sym all at, sym pushed at))
          (zip_more IsCell (cells_view (take i cells)) named (cell_view own) made c.loop-cell.invariant.made is.is);
    }
