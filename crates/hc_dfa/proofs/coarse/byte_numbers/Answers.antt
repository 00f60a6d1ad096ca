use Rattle.std.proofs.Common.{arith}
use Rattle.hc_dfa.proofs.Columns.{columns_tell}
use Rattle.hc_dfa.proofs.coarse.byte_numbers.Goals as goal

pub returns-clause-tells : goal.returns-clause-tells
returns-clause-tells c =
    columns_tell c.classes-classes.result.now c.args.a.now c.in_ok-columns.columns.items c.loop-byte.numbers.items
    c.classes-classes.ensures.classes c.classes-classes.ensures.tells
    (rw c.firsts.ensures.value at c.in_ok-columns.ensures)
    (λ byte below. c.loop-byte.invariant.each byte (omega arith))
