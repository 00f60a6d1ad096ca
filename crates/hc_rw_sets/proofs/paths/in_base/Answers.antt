use Rattle.hc_rw_sets.proofs.Joins.{made_alike}
use Rattle.hc_rw_sets.proofs.Placing.{based}
use Rattle.hc_rw_sets.proofs.paths.in_base.Goals as goal

pub returns : goal.returns
returns c =
    made_alike _ _ _ _ (based c.args.base.now c.args.dir.now)
    (rw (c.deref.ensures.value, c.deref-2.ensures.value, c.in_ok-from.ensures, c.in_ok-to.ensures) at
    c.in_ok-made.ensures)
