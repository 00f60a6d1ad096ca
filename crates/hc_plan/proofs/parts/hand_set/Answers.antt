use Rattle.hc_plan.proofs.HandSets.{is_hand_set}
use Rattle.hc_plan.proofs.parts.hand_set.Goals as goal

pub returns : goal.returns
returns c = is_hand_set c.args.cell.now c.args.hand.elements.now c.args.hand.off c.args.hand.side.now
    c.in_ok-whole.whole
    c.in_ok-lying.lying c.in_ok-set.set c.in_ok-whole.ensures c.in_ok-lying.ensures c.in_ok-set.ensures
