use Rattle.hc_abs_restart.proofs.Common.{take}
use Rattle.hc_abs_restart.specs.Starting.{IsStarted}
use Rattle.hc_abs_restart.proofs.starting.with_variables.Given as goal

abbrev pub invariant-loop-name : goal.invariant-loop-name
invariant-loop-name l = IsStarted l.before (take l.name-index l.names) l.cell
