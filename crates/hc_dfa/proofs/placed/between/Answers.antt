use Rattle.hc_dfa.proofs.Placing.{placed_accepts}
use Rattle.hc_dfa.proofs.placed.between.Goals as goal

pub returns : goal.returns
returns c =
    placed_accepts c.args.set.now c.states.ensures.table c.run.result c.args.around.skip c.args.around.after.now
    c.in_ok-made.made c.run.ensures.within (rw c.states-2.ensures.value at c.in_ok-made.ensures)
    c.args.around.before.now (rw c.start.ensures.value at c.run.ensures.value)
