use Rattle.hc_rw_sets.proofs.Cutting.{parts_accept}
use Rattle.hc_rw_sets.proofs.cuts.cut_at.Goals as goal

pub returns : goal.returns
returns c =
    parts_accept c.args.set.now c.args.mark c.args.part _ (rw c.start.ensures.value at c.in_ok-made.ensures)
