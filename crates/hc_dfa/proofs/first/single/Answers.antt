use Rattle.hc_dfa.proofs.Alone.{alike, single_accepts}
use Rattle.hc_dfa.proofs.first.single.Goals as goal

pub tabled-requires-clause-tells : goal.tabled-requires-clause-tells
tabled-requires-clause-tells c =
    alike c.args.text.now c.in_ok-numbers.numbers.items c.in_ok-classes.classes c.in_ok-numbers.ensures
    (rw c.deref.ensures.value at c.in_ok-classes.ensures.fine)

pub returns : goal.returns
returns c = single_accepts c.args.text.now c.in_ok-made.made c.in_ok-made.ensures
