use Rattle.hc_dfa.proofs.Behind.{own_apart}
use Rattle.hc_dfa.proofs.Tables.{finer_tells}
use Rattle.hc_dfa.proofs.fronted.told_apart.Goals as goal

pub returns-clause-own : goal.returns-clause-own
returns-clause-own c =
    own_apart c.args.front.now c.in_ok-numbers.numbers.items c.in_ok-own.own c.in_ok-shared.shared
    c.in_ok-numbers.ensures (rw c.deref.ensures.value at c.in_ok-own.ensures.fine)
    c.in_ok-shared.ensures.first

pub returns-clause-set : goal.returns-clause-set
returns-clause-set c =
    finer_tells c.in_ok-shared.shared c.classes.result.now c.args.set.now c.in_ok-shared.ensures.second
    c.classes.ensures.tells
