use Rattle.hc_dfa.proofs.Filled.{same_table}
use Rattle.hc_dfa.proofs.coarse.coarsened.Goals as goal

pub returns : goal.returns
returns c = same_table c.args.a.now c.in_ok-made.made c.states.ensures.table c.start.ensures.table
    (rw c.states.ensures.value at c.in_ok-made.ensures)
