use Rattle.hc_abs_restart.proofs.Common.{sym}
use Rattle.hc_abs_restart.proofs.Renaming.{gone, status_is}
use Rattle.hc_abs_restart.proofs.starting.values_of.Goals as goal

pub returns-then-is_same : goal.returns-then-is_same
returns-then-is_same c =
    status_is c.args.before.now c.args.name.now c.in_ok-set.set (sym c.if-is_same.ensures) c.in_ok-set.ensures

pub returns-in_default : goal.returns-in_default
returns-in_default c =
    gone c.args.before.now c.args.name.now c.in_ok-set-2.set (sym c.if-is_same.ensures) c.in_default.ensures
    c.in_ok-set-2.ensures
