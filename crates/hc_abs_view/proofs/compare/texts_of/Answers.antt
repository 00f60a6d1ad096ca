use Rattle.hc_abs_rw.proofs.Keyed.{may_set}
use Rattle.hc_abs_view.proofs.compare.texts_of.Goals as goal

pub returns : goal.returns
returns c = may_set c.args.cell.now c.args.elements.now c.in_ok-set.set c.in_ok-set.ensures
