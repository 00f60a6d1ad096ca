use Rattle.hc_dfa.proofs.Merged.{reduced}
use Rattle.hc_dfa.proofs.reduced.reduce.Goals as goal

pub returns : goal.returns
returns c =
    rw c.in_ok-reduced.ensures
    (reduced c.args.a.now c.in_ok-merged.merged c.in_ok-met.met c.in_ok-merged.ensures c.in_ok-met.ensures)
