use Rattle.hc_abs_restart.proofs.Common.{◌∙◌, None, Some, subst}
use Rattle.hc_abs_pass.specs.Restarting.{variable_source}
use Rattle.hc_cells.specs.Cells.{Puts}
use Rattle.hc_abs_restart.specs.Starting.{IsSource}
use Rattle.hc_cells.specs.declared.slot.Slot.TheVariants as slot
use Rattle.hc_abs_restart.proofs.Renaming.{any_value, value_put}
use Rattle.hc_abs_restart.proofs.starting.with_variable.Goals as goal

pub returns-in_default : goal.returns-in_default
returns-in_default c =
    any_value c.args.before.now c.args.name.now c.args.cell
    (subst (λ name. IsSource c.args.before.now (variable_source name) None) c.as_bytes.ensures
    (subst (IsSource c.args.before.now (variable_source c.as_bytes.result.now)) c.in_default.is c.in_ok-set.ensures))

pub returns : goal.returns
returns c =
    value_put c.args.before.now c.args.name.now c.args.cell c.put.new.self c.in-Some.set
    (subst (λ name. IsSource c.args.before.now (variable_source name) (Some c.in-Some.set)) c.as_bytes.ensures
    (subst (IsSource c.args.before.now (variable_source c.as_bytes.result.now)) c.in-Some.is c.in_ok-set.ensures))
    (subst (λ name. Puts c.args.cell (slot.Env name) c.in-Some.set c.put.new.self)
    (c.in_ok-copy_of.ensures ∙ c.as_bytes-2.ensures) c.in_ok-put.ensures)
