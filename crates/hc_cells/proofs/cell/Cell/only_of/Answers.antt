use Rattle.hc_cells.proofs.Common.{ap, sym, ◌∙◌, subst, Some, option_map, shared_set, set_at, of_set}
use Rattle.hc_cells.proofs.Looking.{look_up, no_only}
use Rattle.hc_dfa.specs.Members.{IsOnlyOf}
use Rattle.hc_cells.proofs.cell.Cell.only_of.Goals as goal

pub returns-in-Some : goal.returns-in-Some
returns-in-Some c =
    subst (λ test. IsOnlyOf test (option_map (λ text. text.now) c.only.result))
    (ap of_set (ap Some c.as_ref.ensures ∙ ap (option_map shared_set) c.in-Some.ensures.value
    ∙ sym (look_up _ c.args.slot.now) ∙ ap (λ sets. set_at sets c.args.slot.now) c.self.view_is))
    c.only.ensures

pub returns-in-None : goal.returns-in-None
returns-in-None c = no_only c.args.self.now c.args.slot.now
    (ap (option_map shared_set) c.in-None.ensures.value ∙ sym (look_up _ c.args.slot.now)
    ∙ ap (λ sets. set_at sets c.args.slot.now) c.self.view_is)
