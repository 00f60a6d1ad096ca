use Rattle.hc_cells.proofs.Common.{◌∙◌, cond, Some, set_at, same_slot}
use Rattle.hc_cells.proofs.cell.with.Goals as goal

pub returns : goal.returns
returns c = λ other. c.in_ok-put.ensures other
    ∙ (λ i. cond (same_slot (c.in_ok-clone.ensures.cases i) other) (Some (c.in_ok-clone-2.ensures.cases i))
    (set_at (c.in_ok-made.ensures.cases i) other))
