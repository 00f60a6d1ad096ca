use Rattle.hc_cells.proofs.Common.{ap, sym, ◌∙◌, cond, Some, option_map, shared_set, set_at, same_slot}
use Rattle.hc_cells.proofs.Looking.{look_up, put_shared}
use Rattle.hc_cells.proofs.cell.Cell.put.Goals as goal

pub returns : goal.returns
returns c = λ other.
    let set = c.in_ok-shared.ensures.ok ∙ c.in_ok-new.ensures in
    let before = sym (look_up _ other) ∙ ap (λ sets. set_at sets other) c.self.view_is in
    look_up _ other ∙ ap (option_map shared_set) (c.in_ok-insert.ensures.updates.0 other) ∙ put_shared _ _ _
    ∙ (λ i. cond (same_slot c.args.slot other) (Some (set i)) (before i))
