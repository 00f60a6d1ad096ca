use Rattle.hc_abs_run.proofs.Common.{◌∙◌, false, sym, ap, Decision, List}
use Rattle.hc_abs_pass.specs.declared.list.SoFar.{SoFar}
use Rattle.hc_abs_run.proofs.Starting.{pass_off, pass_on}
use Rattle.hc_abs_run.proofs.running.pass.Goals as goal

abbrev begun : List Decision → SoFar
begun decisions = record { decisions = decisions; substituted = false; replaced = false }

pub returns-then-not-engine_at-clause-branches : goal.returns-then-not-engine_at-clause-branches
returns-then-not-engine_at-clause-branches g c =
    pass_off c.args.ground c.args.tied c.in_ok-found.found.items (sym c.engine_at.ensures ∙ c.if-not-engine_at.true)
    c.in_ok-found.ensures.branches

pub returns-clause-branches : goal.returns-clause-branches
returns-clause-branches g c =
    pass_on c.args.ground c.args.tied c.in_ok-found-2.found.items (sym c.engine_at.ensures ∙ c.if-not-engine_at.false)
    (begun c.new.result) (ap begun c.new.ensures) c.in_ok-found-2.ensures.branches
