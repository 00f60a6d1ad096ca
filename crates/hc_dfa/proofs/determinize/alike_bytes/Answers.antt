use Rattle.hc_dfa.proofs.Closures.{pieces_tell}
use Rattle.hc_dfa.proofs.determinize.alike_bytes.Goals as goal

pub returns-clause-tells : goal.returns-clause-tells
returns-clause-tells c =
    pieces_tell c.args.machine.now c.in_ok-changes.changes.items c.in_ok-numbers.numbers.items c.in_ok-classes.classes
    c.in_ok-changes.ensures
    (rw c.deref.ensures.value at c.in_ok-numbers.ensures.pieces)
    (rw c.deref-2.ensures.value at c.in_ok-classes.ensures.fine)
