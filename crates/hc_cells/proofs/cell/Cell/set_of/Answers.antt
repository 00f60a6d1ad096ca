use Rattle.hc_cells.proofs.Common.{ap, sym, ◌∙◌, Some, option_map, shared_set, set_at}
use Rattle.hc_cells.proofs.Looking.{look_up}
use Rattle.hc_cells.proofs.cell.Cell.set_of.Goals as goal

pub returns-in-Some : goal.returns-in-Some
returns-in-Some c =
    ap Some (c.set.ensures ∙ c.as_ref.ensures) ∙ ap (option_map shared_set) c.in-Some.ensures.value
    ∙ sym (look_up _ c.args.slot.now)
    ∙ ap (λ sets. set_at sets c.args.slot.now) c.self.view_is

pub returns-in-None : goal.returns-in-None
returns-in-None c =
    ap (option_map shared_set) c.in-None.ensures.value ∙ sym (look_up _ c.args.slot.now)
    ∙ ap (λ sets. set_at sets c.args.slot.now) c.self.view_is
