use Rattle.hc_dfa.proofs.Behind.{fronted_accepts, told}
use Rattle.hc_dfa.proofs.fronted.behind_front.Goals as goal

pub tabled-requires-clause-tells : goal.tabled-requires-clause-tells
tabled-requires-clause-tells c =
    rw c.states-2.ensures.value
    (told c.args.front.now c.args.set.now c.in_ok-classes.classes c.in_ok-classes.ensures.own
    c.in_ok-classes.ensures.set)

pub returns : goal.returns
returns c =
    fronted_accepts c.args.front.now c.args.set.now c.states.ensures.table c.in_ok-made.made
    (rw c.states-2.ensures.value at c.in_ok-made.ensures)
